-- The symbols of a module without faults have names, and lie in their segments.
use Rattle.std.proofs.Common.{◌≡◌, ◌≢◌, ℕ, zero, suc, ◌+◌, ◌-◌, ◌^◌, ◌<◌, ◌≤◌, Bool, true, false, cond, List, [], ◌∷◌, ◌++◌, length, map, Option, None, Some, Result, Ok, Err, refl, sym, ◌∙◌, ap, subst, arith, length-append}
use Rattle.std.specs.{Prelude.{◌&&◌, ◌||◌, nat_eq, nat_le, nat_lt, slice_get}, List.{AllByRecursion, enumerate_from, list_any}}
use Rattle.std.specs.Option.{option_map, option_map_or, unwrap_or}
use Rattle.std.proofs.lemmas.{Bool.{true≢false}, Bool.Decides.{nat_tests}, Option.{none-some, same_Some, slice_get-map, slice_get_within}}
use Rattle.oc_base.specs.declared.code.Code.TheVariants.{DuplicateName, SymbolKind, BadSymbol}
use Rattle.oc_linking.specs.{FirstFault.{Condition, fault_of, first_broken, first_fault, stage_fault}, Numbers.{first_from, or_else}}
use Rattle.oc_linking.specs.Parts as parts
use Rattle.oc_shows.specs.{Computed.{computed_symbol}, Started.{stored_section}}
use Rattle.oc_neutral.specs.{Invariants.{AreBytes, HasOffset, IsAlign, IsBinding, IsSymbol}, Objects.{Object}, Powers.{natural_align}}
use Rattle.oc_neutral.proofs.Positions.{each_at}
use Rattle.oc_shelf.proofs.ReadingLaws.StageLemmas.{all_hold, clean_at, clean_both}
use Rattle.oc_omf_records.specs.{declared.records.Entry.{Entry as Record}, NextEntry.{entry_of}}
use Rattle.oc_omf.specs.{declared.cut.Cut.{Cut}, declared.structures.PublicBase.{PublicBase}, declared.structures.Communal.{Communal}}
use Rattle.oc_omf.specs.{declared.structures.Segment.{Segment}, Cursor.{Reading, Read, each_read, index_read, name_read, number_read}}
use Rattle.oc_omf.specs.{Structures.{External, Public, base_read, long_size, public_read}, Entries.{Entry, all_read, entries_in, is_wide, whole}}
use Rattle.oc_omf.specs.{SectionFaults.{section_stage}, Sections.{section_of, sections_in, segment_size, size_at}}
use Rattle.oc_omf.specs.Symbols.{Mention, symbol_of, symbols_in, same_symbol}
use Rattle.oc_omf.specs.SymbolFaults.{base_conditions, communal_conditions, external_conditions, externals_before, is_empty, is_other_length, is_undefined, public_conditions, symbol_fault, symbol_stage, symbol_stages, symbol_table, read_conditions}
use Rattle.oc_omf.specs.Tables.{is_indexed, tables_of}
use Rattle.oc_omf.specs.SymbolFaults as faults
use Rattle.oc_omf.specs.Tables as all
use Rattle.oc_omf.proofs.{EachLemmas.{next_goes}, EntryLemmas.{numbered_at}}
use Rattle.oc_omf_read.specs.{declared.class.EntryClass.{EntryClass}, Bindings.{binding_seen, place_binding, symbol_seen}, Built.{started}, Classes.{class_of}}
use Rattle.oc_omf_read.specs.{Defined.{said}, Declarations.{Declaration, of_external, of_public, declarations_by, declarations_in}}
use Rattle.oc_omf_read.specs.Mentioned.{length_in, length_said, mention_of, mentioned_symbols, place_in, place_said, seen_in}
use Rattle.oc_omf_read.specs.declared.class.EntryClass.TheVariants as class
use Rattle.oc_omf_read.proofs.{BuildLemmas.{section_at, segment_there}, ClassLemmas.{publics_by}}
use Rattle.oc_omf_read.proofs.{ContentLemmas.{all_append, all_flat, segments_front, size_before}, DefinedLemmas.{said_by_class, tables_upto}}
use Rattle.oc_omf_read.proofs.{LocalLemmas.{all_lists, any_at, any_there, behind, stage_clean}, SumLemmas.{said_here}}
use Rattle.oc_omf_read.proofs.{SymbolLemmas.{symbol_here, symbol_is, as_many}, WholeNames.{IsOfBytes, all_has, declarations_bytes}}
use Rattle.oc_omf_read.proofs.MentionLemmas.{any_mentioned}
use Rattle.oc_omf_judge.proofs.StageLaws.{read_in_file}

-- ... alignments

natural_aligns : (n : ℕ) → IsAlign (natural_align n)
natural_aligns n = by (first_from (λ k. nat_le n (2 ^ k)) 0 5) refl
  where
    by : (o : Option ℕ) → first_from (λ k. nat_le n (2 ^ k)) 0 5 ≡ o → IsAlign (2 ^ unwrap_or o 5)
    by o e = grind arith

-- ... stages

all_front : {X : Type 0} (P : X → Type 0) (xs ys : List X) → AllByRecursion P (xs ++ ys) → AllByRecursion P xs
all_front P [] ys all = tt
all_front P (x ∷ xs) ys all = (all.0, all_front P xs ys all.1)

abbrev IsClean : List Condition → Type 0
IsClean cs = first_broken cs ≡ None

full_name : (name : List ℕ) → is_empty name ≡ false → name ≢ []
full_name name e same = true≢false (sym (ap is_empty same) ∙ e)

-- a definition of an entry that has no fault
pub record IsGoodPublic (x : faults.EntryContext) (p : Public) : Type 0 where
  pub inside : p.offset ≤ size_at x.before p.segment
  pub full : p.name ≢ []

good_public : (x : faults.EntryContext) (j : ℕ) (at : ℕ × ℕ) (p : Public) → first_broken (public_conditions x j at p) ≡ None → IsGoodPublic x p
unfolding public_conditions
good_public x j at p clean =
    let holds = all_hold (public_conditions x j at p) clean in
    record { inside = at_most (size_at x.before p.segment) p.offset holds.0; full = full_name p.name holds.1.0 }
  where
    at_most : (a b : ℕ) → nat_lt a b ≡ false → b ≤ a
    at_most a b e = grind (arith, nat_tests)

good_publics : (x : faults.EntryContext) (n : ℕ) (ss : List (Read Public)) → AllByRecursion IsClean (map (λ (p : ℕ × Read Public). read_conditions x.index (public_conditions x p.0) p.1) (enumerate_from n ss)) → AllByRecursion (IsGoodPublic x) (all_read ss)
good_publics x n [] all = tt
good_publics x n (s ∷ ss) all = by s.part all.0 (good_publics x (n + 1) ss all.1)
  where
    by : (r : Result Public Cut) → first_broken (read_conditions x.index (public_conditions x n) (record { at = s.at; part = r })) ≡ None → AllByRecursion (IsGoodPublic x) (all_read ss)
        → AllByRecursion (IsGoodPublic x) (all_read (record { at = s.at; part = r } ∷ ss))
    by (Ok p) clean rest = (good_public x n (x.index, s.at) p clean, rest)
    by (Err c) clean rest = absurd (none-some _ (sym clean))

abbrev IsFull : External → Type 0
IsFull y = y.name ≢ []

full_external : (x : faults.EntryContext) (j : ℕ) (at : ℕ × ℕ) (y : External) → first_broken (external_conditions x j at y) ≡ None → IsFull y
unfolding external_conditions
full_external x j at y clean =
    let rest : List Condition =
    (is_undefined x.all y, symbol_fault at BadSymbol) ∷ (is_empty y.name, symbol_fault at SymbolKind)
    ∷ (option_map_or (λ c. list_any (is_other_length y.name c) (externals_before x j)) y.communal false, symbol_fault at DuplicateName) ∷ [] in
    let both = clean_both (option_map_or (communal_conditions at) y.communal []) rest clean in
    full_name y.name (all_hold rest both.1).1.0

full_externals : (x : faults.EntryContext) (n : ℕ) (ss : List (Read External)) → AllByRecursion IsClean (map (λ (y : ℕ × Read External). read_conditions x.index (external_conditions x y.0) y.1) (enumerate_from n ss)) → AllByRecursion IsFull (all_read ss)
full_externals x n [] all = tt
full_externals x n (s ∷ ss) all = by s.part all.0 (full_externals x (n + 1) ss all.1)
  where
    by : (r : Result External Cut) → first_broken (read_conditions x.index (external_conditions x n) (record { at = s.at; part = r })) ≡ None → AllByRecursion IsFull (all_read ss)
        → AllByRecursion IsFull (all_read (record { at = s.at; part = r } ∷ ss))
    by (Ok y) clean rest = (full_external x n (x.index, s.at) y clean, rest)
    by (Err c) clean rest = absurd (none-some _ (sym clean))

-- a base names a segment
abbrev IsBased : ℕ → PublicBase → Type 0
IsBased segments b = (1 ≤ b.segment) × (b.segment ≤ segments)

good_base : (groups segments : ℕ) (at : ℕ × ℕ) (b : PublicBase) → first_broken (base_conditions groups segments at b) ≡ None → IsBased segments b
unfolding base_conditions
good_base groups segments at b clean =
    let holds = all_hold (base_conditions groups segments at b) clean in
    (some_of b.segment holds.1.0, at_most segments b.segment (second (nat_lt groups b.group) (nat_lt segments b.segment) holds.0))
  where
    second : (a b : Bool) → (a || b) ≡ false → b ≡ false
    second a b e = grind arith

    at_most : (a b : ℕ) → nat_lt a b ≡ false → b ≤ a
    at_most a b e = grind (arith, nat_tests)

    some_of : (a : ℕ) → nat_eq a 0 ≡ false → 1 ≤ a
    some_of a e = grind (arith, nat_tests)

good_bases : (index groups segments : ℕ) (ss : List (Read PublicBase)) → AllByRecursion IsClean (map (read_conditions index (base_conditions groups segments)) ss) → AllByRecursion (IsBased segments) (all_read ss)
good_bases index groups segments [] all = tt
good_bases index groups segments (s ∷ ss) all = by s.part all.0 (good_bases index groups segments ss all.1)
  where
    by : (r : Result PublicBase Cut) → first_broken (read_conditions index (base_conditions groups segments) (record { at = s.at; part = r })) ≡ None → AllByRecursion (IsBased segments) (all_read ss)
        → AllByRecursion (IsBased segments) (all_read (record { at = s.at; part = r } ∷ ss))
    by (Ok b) clean rest = (good_base groups segments (index, s.at) b clean, rest)
    by (Err c) clean rest = absurd (none-some _ (sym clean))

-- an entry without a fault of symbols
pub record IsGoodEntry (x : faults.EntryContext) : Type 0 where
  pub bases : AllByRecursion (IsBased (length x.before.segments)) (all_read x.entry.bases)
  pub publics : AllByRecursion (IsGoodPublic x) (all_read x.entry.publics)
  pub externals : AllByRecursion IsFull (all_read x.entry.externals)

good_entry : (x : faults.EntryContext) → stage_fault (symbol_stage x) ≡ None → IsGoodEntry x
unfolding symbol_table
good_entry x clean =
    let bases : List (List Condition) = map (read_conditions x.index (base_conditions (length x.before.groups) (length x.before.segments))) x.entry.bases in
    let publics : List (List Condition) = map (λ (p : ℕ × Read Public). read_conditions x.index (public_conditions x p.0) p.1) (enumerate_from 0 x.entry.publics) in
    let externals : List (List Condition) = map (λ (y : ℕ × Read External). read_conditions x.index (external_conditions x y.0) y.1) (enumerate_from 0 x.entry.externals) in
    let all = all_lists (symbol_table x) (λ j low. clean_at (fault_of (symbol_stage x)) (length (symbol_table x)) j clean low) in
    let rest = behind IsClean bases (publics ++ externals) all in
    record {
      bases = good_bases x.index (length x.before.groups) (length x.before.segments) x.entry.bases (all_front IsClean bases (publics ++ externals) all);
      publics = good_publics x 0 x.entry.publics (all_front IsClean publics externals rest);
      externals = full_externals x 0 x.entry.externals (behind IsClean publics externals rest);
    }

-- ... definitions lie in the segment of their base

abbrev value_of : {X : Type 0} → X → Reading X → X
value_of d r = elim r as (λ _. _) [ Ok s ↦ s.0 | Err _ ↦ d ]

public_segment : (wide local : Bool) (segment : ℕ) (b : List ℕ) (at : ℕ) (x : Public) (q : ℕ) → public_read wide local segment b at ≡ Ok (x, q) → x.segment ≡ segment
unfolding public_read
public_segment wide local segment b at x q e =
    let first = next_goes (name_read b at) _ x q e in
    let second = next_goes (number_read (long_size wide) b first.1) _ x q first.3 in
    let third = next_goes (index_read b second.1) _ x q second.3 in
    sym (ap (λ (r : Reading Public). (value_of x r).segment) third.3)

module _ (P : PublicBase → Type 0) where
  abbrev HasBase : Public → Type 0
  HasBase p = (b : PublicBase) × P b × (p.segment ≡ b.segment)

  weaker : {X : Type 0} (Q R : X → Type 0) (xs : List X) → ((x : X) → Q x → R x) → AllByRecursion Q xs → AllByRecursion R xs
  weaker Q R [] f all = tt
  weaker Q R (x ∷ xs) f all = (f x all.0, weaker Q R xs f all.1)

  by_base : (wide local : Bool) (place : ℕ) (b : List ℕ) (r : Reading PublicBase) → AllByRecursion P (all_read (whole place r)) → AllByRecursion HasBase (all_read (publics_by wide local place b r))
  by_base wide local place b (Ok r) all =
      subst (AllByRecursion HasBase) (sym (read_in_file place (each_read (public_read wide local r.0.segment) b r.1)))
      (weaker (λ (p : Public). p.segment ≡ r.0.segment) HasBase (all_read (each_read (public_read wide local r.0.segment) b r.1)) (λ p same. (r.0, all.0, same))
      (all_has (λ (p : Public). p.segment ≡ r.0.segment) (public_read wide local r.0.segment) b (public_segment wide local r.0.segment b) r.1))
  by_base wide local place b (Err c) all = tt

  publics_based : (r : Record) → AllByRecursion P (all_read (said r).bases) → AllByRecursion HasBase (all_read (said r).publics)
  publics_based r all = by (class_of r.kind) refl
    where
      nothing : all_read (said r).publics ≡ [] → AllByRecursion HasBase (all_read (said r).publics)
      nothing none = subst (AllByRecursion HasBase) (sym none) tt

      some : (k : EntryClass) (local : Bool) → (said r).bases ≡ whole r.place (base_read r.contents 0) → (said r).publics ≡ publics_by (is_wide r.kind) local r.place r.contents (base_read r.contents 0)
          → AllByRecursion HasBase (all_read (said r).publics)
      some k local bases publics =
          subst (λ (ss : List (Read Public)). AllByRecursion HasBase (all_read ss)) (sym publics)
          (by_base (is_wide r.kind) local r.place r.contents (base_read r.contents 0) (subst (λ (ss : List (Read PublicBase)). AllByRecursion P (all_read ss)) bases all))

      by : (k : EntryClass) → class_of r.kind ≡ k → AllByRecursion HasBase (all_read (said r).publics)
      by class.Publics is = some class.Publics false (ap (λ (e : Entry). e.bases) (said_by_class r class.Publics is)) (ap (λ (e : Entry). e.publics) (said_by_class r class.Publics is))
      by class.LocalPublics is = some class.LocalPublics true (ap (λ (e : Entry). e.bases) (said_by_class r class.LocalPublics is)) (ap (λ (e : Entry). e.publics) (said_by_class r class.LocalPublics is))
      by class.Names is = nothing (ap (λ (e : Entry). all_read e.publics) (said_by_class r class.Names is))
      by class.Segment is = nothing (ap (λ (e : Entry). all_read e.publics) (said_by_class r class.Segment is))
      by class.Group is = nothing (ap (λ (e : Entry). all_read e.publics) (said_by_class r class.Group is))
      by class.Externals is = nothing (ap (λ (e : Entry). all_read e.publics) (said_by_class r class.Externals is))
      by class.LocalExternals is = nothing (ap (λ (e : Entry). all_read e.publics) (said_by_class r class.LocalExternals is))
      by class.Communals is = nothing (ap (λ (e : Entry). all_read e.publics) (said_by_class r class.Communals is))
      by class.Plain is = nothing (ap (λ (e : Entry). all_read e.publics) (said_by_class r class.Plain is))
      by class.Iterated is = nothing (ap (λ (e : Entry). all_read e.publics) (said_by_class r class.Iterated is))
      by class.Fixups is = nothing (ap (λ (e : Entry). all_read e.publics) (said_by_class r class.Fixups is))
      by class.Nothing is = nothing (ap (λ (e : Entry). all_read e.publics) (said_by_class r class.Nothing is))

-- ... places of mentions

place_from : (x : Mention) (ts : List Declaration) (q : ℕ × ℕ) → place_in x ts ≡ Some q → (j : ℕ) × (t : Declaration) × (slice_get ts j ≡ Some t) × (place_said t.says ≡ Some q)
place_from x [] q e = absurd (none-some q e)
place_from x (t ∷ ts) q e = by (same_symbol x (mention_of t)) (place_said t.says) refl e (place_from x ts q)
  where
    by : (b : Bool) (o : Option (ℕ × ℕ)) → place_said t.says ≡ o → or_else (cond b o None) (place_in x ts) ≡ Some q → (place_in x ts ≡ Some q → (j : ℕ) × (u : Declaration) × (slice_get ts j ≡ Some u) × (place_said u.says ≡ Some q))
        → (j : ℕ) × (u : Declaration) × (slice_get (t ∷ ts) j ≡ Some u) × (place_said u.says ≡ Some q)
    by true (Some p) h e rest = (0, t, refl, h ∙ e)
    by true None h e rest = let m = rest e in (suc m.0, m.1, m.2, m.3)
    by false o h e rest = let m = rest e in (suc m.0, m.1, m.2, m.3)

length_from : (x : Mention) (ts : List Declaration) (q : ℕ) → length_in x ts ≡ Some q → (j : ℕ) × (t : Declaration) × (slice_get ts j ≡ Some t) × (length_said t.says ≡ Some q)
length_from x [] q e = absurd (none-some q e)
length_from x (t ∷ ts) q e = by (same_symbol x (mention_of t)) (length_said t.says) refl e (length_from x ts q)
  where
    by : (b : Bool) (o : Option ℕ) → length_said t.says ≡ o → or_else (cond b o None) (length_in x ts) ≡ Some q → (length_in x ts ≡ Some q → (j : ℕ) × (u : Declaration) × (slice_get ts j ≡ Some u) × (length_said u.says ≡ Some q))
        → (j : ℕ) × (u : Declaration) × (slice_get (t ∷ ts) j ≡ Some u) × (length_said u.says ≡ Some q)
    by true (Some p) h e rest = (0, t, refl, h ∙ e)
    by true None h e rest = let m = rest e in (suc m.0, m.1, m.2, m.3)
    by false o h e rest = let m = rest e in (suc m.0, m.1, m.2, m.3)

module _ (file : List ℕ) (bytes : AreBytes file) (sections : stage_fault (section_stage (entries_in file)) ≡ None) (symbols : first_fault (symbol_stages (entries_in file)) ≡ None) where
  abbrev es : List Entry
  es = entries_in file

  abbrev t : all.Tables
  t = tables_of es

  abbrev object : Object
  object = (started file).object

  -- an offset of a segment by its index
  abbrev LiesIn : ℕ × ℕ → Type 0
  LiesIn q = (s : Segment) × (slice_get t.segments (q.0 - 1) ≡ Some s) × (q.1 ≤ segment_size s)

  -- a mention has a name, and its symbol's place is there
  pub record IsWhole (m : Declaration) : Type 0 where
    pub full : m.name ≢ []
    pub lies : (q : ℕ × ℕ) → place_said m.says ≡ Some q → LiesIn q

  public_lies : (i : ℕ) (e : Entry) → slice_get es i ≡ Some e → (p : Public) → IsGoodPublic (faults.entry_context es (i, e)) p → (b : PublicBase) × IsBased (length (tables_upto file i).segments) b × (p.segment ≡ b.segment) → LiesIn (p.segment, p.offset)
  public_lies i e here p good base =
      let first = base.1.0 in
      let last = base.1.1 in
      let same = base.2 in
      let front = segments_front file i in
      let long = ap length front.1 ∙ length-append (tables_upto file i).segments front.0 in
      let s = segment_there t.segments (p.segment - 1) (omega (arith, first, last, same, long)) in
      let one : p.segment - 1 + 1 ≡ p.segment = omega (arith, first, same) in
      let indexed = within p.segment (length (tables_upto file i).segments) (omega (arith, first, same)) (omega (arith, last, same)) in
      let size = ap (size_at (tables_upto file i)) (sym one) ∙ size_before file sections i e here (p.segment - 1) s.0 s.1 (ap (is_indexed (tables_upto file i).segments) one ∙ indexed) in
      let inside = good.inside in
      (s.0, s.1, omega (arith, inside, size))
    where
      within : (a n : ℕ) → 1 ≤ a → a ≤ n → (nat_le 1 a && nat_le a n) ≡ true
      within a n first last = grind (arith, nat_tests)

  publics_whole : (i : ℕ) (e : Entry) → slice_get es i ≡ Some e → (ps : List Public) → AllByRecursion (IsGoodPublic (faults.entry_context es (i, e))) ps → AllByRecursion (HasBase (IsBased (length (tables_upto file i).segments))) ps
      → AllByRecursion IsWhole (map of_public ps)
  publics_whole i e here [] good based = tt
  publics_whole i e here (p ∷ ps) good based = (
    record { full = good.0.full; lies = λ q is. subst LiesIn (same_Some (p.segment, p.offset) q is) (public_lies i e here p good.0 based.0) },
    publics_whole i e here ps good.1 based.1,
  )

  externals_whole : (ys : List External) → AllByRecursion IsFull ys → AllByRecursion IsWhole (map of_external ys)
  externals_whole [] all = tt
  externals_whole (y ∷ ys) all = (record { full = all.0; lies = λ q is. absurd (by y.communal q is) }, externals_whole ys all.1)
    where
      by : (o : Option Communal) (q : ℕ × ℕ) → place_said (of_external (record { local = y.local; name = y.name; communal = o })).says ≡ Some q → ⊥
      by o q is = grind arith

  told_whole : AllByRecursion IsWhole (declarations_in es)
  unfolding declarations_in
  told_whole = all_flat IsWhole declarations_by es (λ i e here.
      let good = good_entry (faults.entry_context es (i, e)) (stage_clean (λ x. symbol_stage (faults.entry_context es x)) (enumerate_from 0 es) i (i, e) symbols (numbered_at es i e here)) in
      let m = said_here file i e here in
      let segments : ℕ = length (tables_upto file i).segments in
      let based = subst (λ (x : Entry). AllByRecursion (HasBase (IsBased segments)) (all_read x.publics)) (sym m.is)
      (publics_based (IsBased segments) (entry_of file m.at) (subst (λ (x : Entry). AllByRecursion (IsBased segments) (all_read x.bases)) m.is good.bases)) in
      all_append IsWhole (map of_public (all_read e.publics)) (map of_external (all_read e.externals)) (publics_whole i e here (all_read e.publics) good.publics based) (externals_whole (all_read e.externals) good.externals))

  -- ... symbols

  offset_there : (q : ℕ × ℕ) → LiesIn q → HasOffset object.sections (q.0 - 1) q.1
  offset_there q l = (
    stored_section [] (section_of t (q.0 - 1 + 1, l.0)),
    slice_get-map (stored_section []) (sections_in t) (q.0 - 1) ∙ ap (option_map (stored_section [])) (section_at t (q.0 - 1) l.0 l.1),
    l.2,
  )

  pub binding_whole : (x : Mention) → IsBinding object (binding_seen (seen_in (declarations_in es) x))
  binding_whole x = by (place_in x (declarations_in es)) (length_in x (declarations_in es)) refl refl
    where
      placed : (local : Bool) (q : ℕ × ℕ) → LiesIn q → IsBinding object (place_binding local q)
      placed true q l = offset_there q l
      placed false q l = offset_there q l

      by : (o : Option (ℕ × ℕ)) (n : Option ℕ) → place_in x (declarations_in es) ≡ o → length_in x (declarations_in es) ≡ n → IsBinding object (binding_seen (record { local = x.local; name = x.name; place = o; length = n }))
      by (Some q) n e f = let m = place_from x (declarations_in es) q e in placed x.local q ((each_at IsWhole (declarations_in es) m.0 m.1 told_whole m.2).lies q m.3)
      by None (Some size) e f =
          let m = length_from x (declarations_in es) size f in
          ((each_at IsOfBytes (declarations_in es) m.0 m.1 (declarations_bytes file bytes) m.2).length size m.3, natural_aligns size)
      by None None e f = tt

  mention_there : (xs : List Mention) (k : ℕ) → k < length xs → (x : Mention) × (slice_get xs k ≡ Some x)
  mention_there [] k low = absurd (omega (arith, low))
  mention_there (x ∷ xs) zero low = (x, refl)
  mention_there (x ∷ xs) (suc k) low = mention_there xs k (omega (arith, low))

  seen_whole : (k : ℕ) (x : Mention) → slice_get (mentioned_symbols (declarations_in es)) k ≡ Some x → k < 4294967296 → IsSymbol object (symbol_seen k (seen_in (declarations_in es) x))
  seen_whole k x here few =
      let m = any_there es symbols x (declarations_in es) (sym (any_mentioned x (declarations_in es)) ∙ any_at es symbols (mentioned_symbols (declarations_in es)) k x here) in
      let whole = each_at IsWhole (declarations_in es) m.0 m.1 told_whole m.2 in
      let named = each_at IsOfBytes (declarations_in es) m.0 m.1 (declarations_bytes file bytes) m.2 in
      let name : m.1.name ≡ x.name = ap (λ (y : Mention). y.name) m.3 in
      record {
        named = subst (λ (n : List ℕ). n ≢ []) name whole.full;
        name = subst AreBytes name named.name;
        binding = binding_whole x;
        size = omega arith;
        number = few;
      }

  -- a symbol of the object
  pub symbol_whole : length (symbols_in es) ≤ 4294967295 → (k : ℕ) (s : parts.Symbol) → slice_get (symbols_in es) k ≡ Some s → IsSymbol object (computed_symbol (symbols_in es) s)
  symbol_whole few k s here =
      let low = slice_get_within (symbols_in es) k s here in
      let many = as_many es symbols in
      let x = mention_there (mentioned_symbols (declarations_in es)) k (omega (arith, low, many)) in
      let is : symbol_of t (k, x.0) ≡ s = same_Some (symbol_of t (k, x.0)) s (sym (symbol_here es symbols k x.0 x.1) ∙ here) in
      subst (λ (y : parts.Symbol). IsSymbol object (computed_symbol (symbols_in es) y)) is
      (subst (IsSymbol object) (sym (symbol_is es symbols k x.0)) (seen_whole k x.0 x.1 (omega (arith, low, few))))
