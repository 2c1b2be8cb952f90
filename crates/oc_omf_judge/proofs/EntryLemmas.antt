-- What is kept, behind an entry.
use Rattle.std.proofs.Common.{◌≡◌, ℕ, suc, ◌+◌, Bool, true, false, List, [], ◌∷◌, ◌++◌, length, Option, Some, None, Ok, Err, refl, sym, ◌∙◌, ap, subst, arith, append-nil}
use Rattle.std.specs.{Prelude.{min, slice_get}, Option.{option_map}}
use Rattle.std.proofs.lemmas.{List.{length-append}, Option.{none-some, same_Some}}
use Rattle.oc_shelf.proofs.WritingLaws.MemberLemmas.{member_flat_map}
use Rattle.oc_omf.specs.{declared.cut.Cut.{Cut}, Cursor.{Read, Reading}, Structures.{External, Piece, piece_read}}
use Rattle.oc_omf.specs.{Entries.{Entry, all_read, in_file, says_nothing, whole}, Tables.{Tables, tables_of}, Fixups.{fixed_in, last_of}, Known.{AreInForce}}
use Rattle.oc_omf.specs.Topics.{said_on}
use Rattle.oc_omf.specs.declared.topics.Topic.TheVariants as topic
use Rattle.oc_omf_judge.specs.{Defined.{and_entry, part_of}, declared.counts.Counts.{Counts}, declared.last_data.LastData.{LastData}}
use Rattle.oc_omf_judge.specs.{declared.reached.Reached.{Reached}, declared.whole.Whole.{Whole}, Counts.{AreCounts, end_of, external_by}}
use Rattle.oc_omf_judge.specs.{LastData.{IsLast, shown}, Lying.{lying_of}}
use Rattle.oc_omf_judge.specs.{Reached.{AreExternalsTaken, AreSmall, IsEntryTaken, judged_behind, last_in, placed_in}, Starts.{AreStarts}}
use Rattle.oc_omf_judge.specs.Whole.{IsWhole, entries}
use Rattle.oc_omf.proofs.EachLemmas.{Goes}
use Rattle.oc_omf_judge.proofs.{GoesLemmas.{communal_goes, external_goes}, StageLaws.{read_in_file, whole_read}}

-- ... counts

pub counts_more : (t : Tables) (c d : Counts) (e : Entry) → d.segments ≡ min (length t.segments + length (all_read e.segments)) 65536 → d.groups ≡ min (length t.groups + length (all_read e.groups)) 65536
    → d.externals ≡ min (length t.externals + length (all_read e.externals)) 65536 → AreCounts (and_entry t e) d
counts_more t c d e s g x = record {
  segments_are = s ∙ ap (λ (n : ℕ). min n 65536) (sym (length-append t.segments (all_read e.segments)));
  groups_are = g ∙ ap (λ (n : ℕ). min n 65536) (sym (length-append t.groups (all_read e.groups)));
  externals_are = x ∙ ap (λ (n : ℕ). min n 65536) (sym (length-append t.externals (all_read e.externals)));
}

-- where nothing more is counted
count_same : (n m k : ℕ) → m ≡ min n 65536 → k ≡ 0 → m ≡ min (n + k) 65536
count_same n m k e none = omega (arith, e, none)

-- ... an external, or a communal

pub external_by_goes : (communals local : Bool) (b : List ℕ) → Goes (external_by communals local) b
external_by_goes true local b = communal_goes b
external_by_goes false local b = external_goes local b

pub end_there : {X : Type 0} (r : Reading X) (q : ℕ) → Some q ≡ end_of r → (x : X) × (r ≡ Ok (x, q))
end_there (Ok r) q e = (r.0, ap (λ (k : ℕ). Ok (r.0, k)) (sym (same_Some q r.1 e)))
end_there (Err c) q e = absurd (none-some q (sym e))

pub end_lost : {X : Type 0} (r : Reading X) → None ≡ end_of r → (c : Cut) × (r ≡ Err c)
end_lost (Ok r) e = absurd (none-some r.1 e)
end_lost (Err c) e = (c, refl)

-- ... an entry without threads and fixups

pub quiet : (w : Whole) (old new : Reached) (index : ℕ) (e : Entry) → e.subrecords ≡ [] → new.threads ≡ old.threads → new.starts ≡ old.starts
    → ((before : Tables) → AreCounts before old.counts → AreCounts (and_entry before e) new.counts)
    → ((before : Tables) → AreSmall e → option_map lying_of (last_of before.pieces) ≡ last_in old → option_map lying_of (last_of (before.pieces ++ all_read e.pieces)) ≡ last_in new)
    → IsEntryTaken w old index e new
quiet w old new index e none t s counts last before earlier small is =
    let all : earlier ++ placed_in index before e.subrecords ≡ earlier = ap (λ rs. earlier ++ placed_in index before rs) none ∙ append-nil earlier in (
      ap (λ rs. judged_behind w earlier (placed_in index before rs)) none,
      record {
        counts_are = counts before is.counts_are;
        last_is = last before small is.last_is;
        threads_are = subst (λ xs. AreInForce xs new.threads) (sym all) (subst (AreInForce earlier) (sym t) is.threads_are);
        starts_are = subst (λ xs. AreStarts w (fixed_in xs) new.starts) (sym all) (subst (AreStarts w (fixed_in earlier)) (sym s) is.starts_are);
      },
    )

-- externals
pub externals_taken : (w : Whole) (old new : Reached) (index place : ℕ) (reads : List (Read External)) → new.threads ≡ old.threads → new.starts ≡ old.starts → last_in new ≡ last_in old
    → new.counts.segments ≡ old.counts.segments → new.counts.groups ≡ old.counts.groups
    → ((n : ℕ) → old.counts.externals ≡ min n 65536 → new.counts.externals ≡ min (n + length (all_read reads)) 65536) → AreExternalsTaken w old index place reads new
externals_taken w old new index place reads t s l a g more =
    quiet w old new index (record (says_nothing place) { externals = in_file place reads }) refl t s
    (λ tables are. counts_more tables old.counts new.counts (record (says_nothing place) { externals = in_file place reads })
    (count_same (length tables.segments) new.counts.segments 0 (a ∙ are.segments_are) refl) (count_same (length tables.groups) new.counts.groups 0 (g ∙ are.groups_are) refl)
    (more (length tables.externals) are.externals_are ∙ ap (λ xs. min (length tables.externals + length xs) 65536) (sym (read_in_file place reads))))
    (λ before small is. ap (λ ps. option_map lying_of (last_of ps)) (append-nil before.pieces) ∙ is ∙ sym l)

-- the last of a list with one more
pub last_push : {X : Type 0} (xs : List X) (x : X) → last_of (xs ++ x ∷ []) ≡ Some x
last_push [] x = refl
last_push (y ∷ []) x = refl
last_push (y ∷ z ∷ xs) x = last_push (z ∷ xs) x

-- data
pub data_taken : (w : Whole) (old new : Reached) (index place : ℕ) (wide iterated : Bool) (b : List ℕ) (last : LastData) → new.counts ≡ old.counts → new.threads ≡ old.threads → new.starts ≡ old.starts
    → last_in new ≡ Some (shown last) → IsLast wide iterated b (Some last) → IsEntryTaken w old index (said_on (topic.Data iterated) place wide b) new
data_taken w old new index place wide iterated b last c t s l is =
    quiet w old new index (said_on (topic.Data iterated) place wide b) refl t s
    (λ tables are. subst (AreCounts (and_entry tables (said_on (topic.Data iterated) place wide b))) (sym c)
    (counts_more tables old.counts old.counts (said_on (topic.Data iterated) place wide b) (count_same (length tables.segments) old.counts.segments 0 are.segments_are refl)
    (count_same (length tables.groups) old.counts.groups 0 are.groups_are refl) (count_same (length tables.externals) old.counts.externals 0 are.externals_are refl)))
    (λ before small held. by before small (part_of (piece_read wide iterated b 0)) refl)
  where
    by : (before : Tables) → AreSmall (said_on (topic.Data iterated) place wide b) → (o : Option Piece) → part_of (piece_read wide iterated b 0) ≡ o
        → option_map lying_of (last_of (before.pieces ++ all_read (whole place (piece_read wide iterated b 0)))) ≡ last_in new
    by before small None e = absurd (none-some (shown last) (sym (ap (option_map lying_of) e) ∙ is (λ d f. absurd (none-some d (sym e ∙ f)))))
    by before small (Some d) e =
        let own : all_read (whole place (piece_read wide iterated b 0)) ≡ d ∷ [] = whole_read place (piece_read wide iterated b 0) d e in
        ap (λ ps. option_map lying_of (last_of (before.pieces ++ ps))) own ∙ ap (option_map lying_of) (last_push before.pieces d) ∙ ap (option_map lying_of) (sym e)
        ∙ is (λ x f. small x (ap last_of (whole_read place (piece_read wide iterated b 0) x f))) ∙ sym l

-- data that are cut
pub data_lost : (w : Whole) (old : Reached) (index place : ℕ) (wide iterated : Bool) (b : List ℕ) → IsLast wide iterated b None → IsEntryTaken w old index (said_on (topic.Data iterated) place wide b) old
data_lost w old index place wide iterated b is =
    quiet w old old index (said_on (topic.Data iterated) place wide b) refl refl refl
    (λ tables are. counts_more tables old.counts old.counts (said_on (topic.Data iterated) place wide b) (count_same (length tables.segments) old.counts.segments 0 are.segments_are refl)
    (count_same (length tables.groups) old.counts.groups 0 are.groups_are refl) (count_same (length tables.externals) old.counts.externals 0 are.externals_are refl))
    (λ before small held. by before small held (piece_read wide iterated b 0) refl)
  where
    by : (before : Tables) → AreSmall (said_on (topic.Data iterated) place wide b) → option_map lying_of (last_of before.pieces) ≡ last_in old → (r : Reading Piece) → piece_read wide iterated b 0 ≡ r
        → option_map lying_of (last_of (before.pieces ++ all_read (whole place (piece_read wide iterated b 0)))) ≡ last_in old
    by before small held (Err c) e = ap (λ (r : Reading Piece). option_map lying_of (last_of (before.pieces ++ all_read (whole place r)))) e ∙ ap (λ ps. option_map lying_of (last_of ps)) (append-nil before.pieces) ∙ held
    by before small held (Ok r) e =
        absurd (none-some (lying_of r.0) (sym (is (λ x f. small x (ap last_of (whole_read place (piece_read wide iterated b 0) x f)))) ∙ ap (λ (r : Reading Piece). option_map lying_of (part_of r)) e))

-- ... data that are small enough

last_there : {X : Type 0} (xs : List X) (x : X) → last_of xs ≡ Some x → (k : ℕ) × (slice_get xs k ≡ Some x)
last_there [] x e = absurd (none-some x e)
last_there (y ∷ []) x e = (0, e)
last_there (y ∷ z ∷ xs) x e = let rest = last_there (z ∷ xs) x e in (suc rest.0, rest.1)

pub entry_small : (w : Whole) → IsWhole w → (i : ℕ) (e : Entry) → slice_get (entries w) i ≡ Some e → AreSmall e
unfolding tables_of
entry_small w is i e here d last =
    let own = last_there (all_read e.pieces) d last in
    let m = member_flat_map (λ (e : Entry). all_read e.pieces) (entries w) i own.0 e d here own.1 in
    is.front_is.defined_is.pieces_small m.0 d m.1
