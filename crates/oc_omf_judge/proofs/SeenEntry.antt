-- What is kept, behind an entry.
use Rattle.std.proofs.Common.{◌≡◌, ℕ, Bool, true, false, List, [], ◌∷◌, ◌++◌, length, map, Some, None, Ok, Err, refl, sym, ◌∙◌, ap, subst, append-nil}
use Rattle.std.proofs.lemmas.{List.{length-map, map-append}, Option.{none-some}}
use Rattle.oc_base.specs.{declared.stop.Stop.{Stop}, Stops.{IsStop}}
use Rattle.oc_linking.specs.FirstFault.{first_broken}
use Rattle.oc_omf.specs.{declared.cut.Cut.{Cut}, declared.structures.Segment.{Segment}, Cursor.{Reading, each_read, index_read}}
use Rattle.oc_omf.specs.declared.structures.PublicBase.{PublicBase}
use Rattle.oc_omf.specs.Structures.{Group, base_read, communal_read, external_read, group_read, public_read, segment_read}
use Rattle.oc_omf.specs.{Entries.{Entry, all_read, in_file, whole}, Tables.{Tables}, Symbols.{external_mention}, SymbolFaults.{base_conditions}}
use Rattle.oc_omf.specs.Topics.{publics_on, said_on}
use Rattle.oc_omf_judge.specs.{declared.earlier.EarlierSymbols.{EarlierSymbols}, Defined.{and_entry, part_of}, NameNumbers.{NameNumbers}, Locals.{AreLocals, AreLocated}}
use Rattle.oc_omf_judge.specs.EarlierSymbols.{AreCommunal, AreExternalsStopped, AreExternalsTaken, AreNamed, IsEntrySeen, IsEntryStopped, AreEarlierSymbols, mention_of}
use Rattle.oc_omf.specs.declared.topics.Topic.TheVariants as topic
use Rattle.oc_omf_judge.proofs.{GroupLemmas.{group_named, group_with, none_of}, SeenLemmas.{symbols_judged}, StageLaws.{read_in_file, whole_read}}

-- what is kept speaks of segments, groups, definitions and externals alone
pub same_seen : (t u : Tables) (s : EarlierSymbols) → AreEarlierSymbols t s → u.segments ≡ t.segments → u.groups ≡ t.groups → u.publics ≡ t.publics → u.externals ≡ t.externals → AreEarlierSymbols u s
same_seen t u s is e g p x = record {
  segments_are = is.segments_are ∙ sym e;
  groups_are = is.groups_are ∙ ap (map (λ (y : Group). y.name)) (sym g);
  locals_are = subst (λ ps. AreNamed true ps s.locals) (sym p) is.locals_are;
  globals_are = subst (λ ps. AreNamed false ps s.globals) (sym p) is.globals_are;
  communals_are = subst (λ ys. AreCommunal ys s.communals) (sym x) is.communals_are;
  externals_are = is.externals_are ∙ ap (map external_mention) (sym x);
}

-- the conditions on a base, by what is kept
pub base_by : (t : Tables) (s : EarlierSymbols) (groups segments : ℕ) (x : ℕ × ℕ) (base : PublicBase) → AreEarlierSymbols t s → groups ≡ length s.groups.items → segments ≡ length s.segments.items
    → first_broken (base_conditions (length t.groups) (length t.segments) x base) ≡ first_broken (base_conditions groups segments x base)
base_by t s groups segments x base is g n =
    ap (λ (k : ℕ). first_broken (base_conditions k (length t.segments) x base)) (sym (g ∙ ap length is.groups_are ∙ length-map t.groups (λ (y : Group). y.name)))
    ∙ ap (λ (k : ℕ). first_broken (base_conditions groups k x base)) (sym (n ∙ ap length is.segments_are))

-- an entry without symbols, by what is kept behind it
pub silent_seen : (known : NameNumbers) (old : EarlierSymbols) (index : ℕ) (e : Entry) (new : EarlierSymbols) → e.bases ≡ [] → e.publics ≡ [] → e.externals ≡ []
    → ((t : Tables) → AreEarlierSymbols t old → AreEarlierSymbols (record t { segments = t.segments ++ all_read e.segments; groups = t.groups ++ all_read e.groups }) new) → IsEntrySeen known old index e new
silent_seen known old index e new b p x more all t names is = (
  symbols_judged all t index e ∙ rw (b, p, x) refl,
  same_seen (record t { segments = t.segments ++ all_read e.segments; groups = t.groups ++ all_read e.groups }) (and_entry t e) new (more t is) refl refl
      (ap (λ ps. t.publics ++ all_read ps) p ∙ append-nil t.publics) (ap (λ ys. t.externals ++ all_read ys) x ∙ append-nil t.externals),
)

-- one that defines nothing that is kept
pub same_kept : (t : Tables) (e : Entry) (s : EarlierSymbols) → e.segments ≡ [] → e.groups ≡ [] → AreEarlierSymbols t s → AreEarlierSymbols (record t { segments = t.segments ++ all_read e.segments; groups = t.groups ++ all_read e.groups }) s
same_kept t e s a g is =
    same_seen t (record t { segments = t.segments ++ all_read e.segments; groups = t.groups ++ all_read e.groups }) s is (ap (λ xs. t.segments ++ all_read xs) a ∙ append-nil t.segments)
    (ap (λ xs. t.groups ++ all_read xs) g ∙ append-nil t.groups) refl refl

-- ... segments and groups

pub segment_seen : (known : NameNumbers) (old new : EarlierSymbols) (index place : ℕ) (wide : Bool) (b : List ℕ) (s : Segment) → part_of (segment_read wide b 0) ≡ Some s → new.segments.items ≡ old.segments.items ++ s ∷ []
    → new.groups ≡ old.groups → new.locals ≡ old.locals → new.globals ≡ old.globals → new.communals ≡ old.communals → new.externals ≡ old.externals
    → IsEntrySeen known old index (said_on topic.Segment place wide b) new
segment_seen known old new index place wide b s read e g l o c x = silent_seen known old index (said_on topic.Segment place wide b) new refl refl refl (λ t is. record {
  segments_are = e ∙ ap (λ xs. xs ++ s ∷ []) is.segments_are ∙ ap (λ xs. t.segments ++ xs) (sym (whole_read place (segment_read wide b 0) s read));
  groups_are = ap (λ v. v.items) g ∙ is.groups_are ∙ ap (map (λ (y : Group). y.name)) (sym (append-nil t.groups));
  locals_are = subst (λ h. AreNamed true t.publics h) (sym l) is.locals_are;
  globals_are = subst (λ h. AreNamed false t.publics h) (sym o) is.globals_are;
  communals_are = subst (λ h. AreCommunal t.externals h) (sym c) is.communals_are;
  externals_are = ap (λ v. map mention_of v.items) x ∙ is.externals_are;
})

-- one that is cut
pub segment_lost : (known : NameNumbers) (old : EarlierSymbols) (index place : ℕ) (wide : Bool) (b : List ℕ) (c : Cut) → segment_read wide b 0 ≡ Err c → IsEntrySeen known old index (said_on topic.Segment place wide b) old
segment_lost known old index place wide b c cut = silent_seen known old index (said_on topic.Segment place wide b) old refl refl refl (λ t is.
    same_seen t (record t { segments = t.segments ++ all_read (whole place (segment_read wide b 0)); groups = t.groups ++ [] }) old is
    (ap (λ (r : Reading Segment). t.segments ++ all_read (whole place r)) cut ∙ append-nil t.segments) (append-nil t.groups) refl refl)

pub group_seen : (known : NameNumbers) (old new : EarlierSymbols) (index place : ℕ) (wide : Bool) (b : List ℕ) (name at : ℕ) → index_read b 0 ≡ Ok (name, at) → new.groups.items ≡ old.groups.items ++ name ∷ []
    → new.segments ≡ old.segments → new.locals ≡ old.locals → new.globals ≡ old.globals → new.communals ≡ old.communals → new.externals ≡ old.externals
    → IsEntrySeen known old index (said_on topic.Group place wide b) new
group_seen known old new index place wide b name at read e s l o c x = silent_seen known old index (said_on topic.Group place wide b) new refl refl refl (λ t is. record {
  segments_are = ap (λ v. v.items) s ∙ is.segments_are ∙ sym (append-nil t.segments);
  groups_are = e ∙ ap (λ xs. xs ++ name ∷ []) is.groups_are ∙ sym (map-append (λ (y : Group). y.name) t.groups (group_with b name at ∷ []))
      ∙ ap (λ xs. map (λ (y : Group). y.name) (t.groups ++ xs)) (sym (whole_read place (group_read b 0) (group_with b name at) (group_named b name at read)));
  locals_are = subst (λ h. AreNamed true t.publics h) (sym l) is.locals_are;
  globals_are = subst (λ h. AreNamed false t.publics h) (sym o) is.globals_are;
  communals_are = subst (λ h. AreCommunal t.externals h) (sym c) is.communals_are;
  externals_are = ap (λ v. map mention_of v.items) x ∙ is.externals_are;
})

pub group_lost : (known : NameNumbers) (old : EarlierSymbols) (index place : ℕ) (wide : Bool) (b : List ℕ) (c : Cut) → index_read b 0 ≡ Err c → IsEntrySeen known old index (said_on topic.Group place wide b) old
group_lost known old index place wide b c cut = silent_seen known old index (said_on topic.Group place wide b) old refl refl refl (λ t is.
    same_seen t (record t { segments = t.segments ++ []; groups = t.groups ++ all_read (whole place (group_read b 0)) }) old is
    (append-nil t.segments) (ap (λ xs. t.groups ++ xs) (none_read place (group_read b 0) (group_none b c cut)) ∙ append-nil t.groups) refl refl)
  where
    group_none : (b : List ℕ) (c : Cut) → index_read b 0 ≡ Err c → part_of (group_read b 0) ≡ None
    group_none b c cut = none_of b c cut

    none_read : (place : ℕ) (r : Reading Group) → part_of r ≡ None → all_read (whole place r) ≡ []
    none_read place (Ok r) e = absurd (none-some r.0 (sym e))
    none_read place (Err c) e = refl

-- ... externals

pub externals_seen : (known : NameNumbers) (old new : EarlierSymbols) (index : ℕ) (local : Bool) (place : ℕ) (wide : Bool) (b : List ℕ)
    → AreExternalsTaken known old index (in_file place (each_read (external_read local) b 0)) new → IsEntrySeen known old index (said_on (topic.Externals local) place wide b) new
externals_seen known old new index local place wide b taken all t names is =
    let w = taken all t names is in (
      symbols_judged all t index (said_on (topic.Externals local) place wide b) ∙ w.0,
      same_seen _ (and_entry t (said_on (topic.Externals local) place wide b)) new w.1 (append-nil t.segments) (append-nil t.groups) (append-nil t.publics) refl,
    )

pub externals_stop : (known : NameNumbers) (old : EarlierSymbols) (index : ℕ) (local : Bool) (place : ℕ) (wide : Bool) (b : List ℕ) (s : Stop)
    → AreExternalsStopped known old index (in_file place (each_read (external_read local) b 0)) s → IsEntryStopped known old index (said_on (topic.Externals local) place wide b) s
externals_stop known old index local place wide b s stopped all t names is =
    subst (λ o. IsStop o s) (sym (symbols_judged all t index (said_on (topic.Externals local) place wide b))) (stopped all t names is)

pub communals_seen : (known : NameNumbers) (old new : EarlierSymbols) (index place : ℕ) (wide : Bool) (b : List ℕ) → AreExternalsTaken known old index (in_file place (each_read communal_read b 0)) new
    → IsEntrySeen known old index (said_on topic.Communals place wide b) new
communals_seen known old new index place wide b taken all t names is =
    let w = taken all t names is in (
      symbols_judged all t index (said_on topic.Communals place wide b) ∙ w.0,
      same_seen _ (and_entry t (said_on topic.Communals place wide b)) new w.1 (append-nil t.segments) (append-nil t.groups) (append-nil t.publics) refl,
    )

pub communals_stop : (known : NameNumbers) (old : EarlierSymbols) (index place : ℕ) (wide : Bool) (b : List ℕ) (s : Stop) → AreExternalsStopped known old index (in_file place (each_read communal_read b 0)) s
    → IsEntryStopped known old index (said_on topic.Communals place wide b) s
communals_stop known old index place wide b s stopped all t names is =
    subst (λ o. IsStop o s) (sym (symbols_judged all t index (said_on topic.Communals place wide b))) (stopped all t names is)

-- an entry that says nothing of symbols, segments and groups
pub nothing_seen : (known : NameNumbers) (old : EarlierSymbols) (index : ℕ) (e : Entry) → e.bases ≡ [] → e.publics ≡ [] → e.externals ≡ [] → e.segments ≡ [] → e.groups ≡ [] → IsEntrySeen known old index e old
nothing_seen known old index e b p x s g = silent_seen known old index e old b p x (λ t is. same_kept t e old s g is)

-- ... the segments of definitions that this module alone sees

pub located_entry : (old new : NameNumbers) (local : Bool) (place : ℕ) (wide : Bool) (b : List ℕ) (base : PublicBase) (at : ℕ) → base_read b 0 ≡ Ok (base, at)
    → AreLocated old (all_read (each_read (public_read wide local base.segment) b at)) new → AreLocated old (all_read (said_on (topic.Publics local) place wide b).publics) new
located_entry old new local place wide b base at e located publics are =
    subst (λ xs. AreLocals (publics ++ xs) new) (sym (ap (λ (r : Reading PublicBase). all_read (publics_on local place wide b r)) e ∙ read_in_file place (each_read (public_read wide local base.segment) b at))) (located publics are)
