-- The relocations of fields, added one after the other.
use Rattle.std.proofs.Common.{◌≡◌, ℕ, zero, suc, ◌+◌, ◌-◌, ◌<◌, ◌≤◌, Bool, true, false, cond, List, [], ◌∷◌, get_or, length, map, take, Option, None, Some, refl, sym, ◌∙◌, ap, subst, arith}
use Rattle.std.specs.{Prelude.{◌&&◌, ◌||◌, nat_eq, nat_le, slice_get}, List.Sorted.{IsPermutation}, Option.{option_and_then, option_map, option_map_or}}
use Rattle.std.proofs.Math.Seq.{take-length}
use Rattle.std.proofs.lemmas.{Bool.{true≢false}, Bool.Decides.{nat_tests}, List.{length-map}, List.Folds.{list_any_more}}
use Rattle.std.proofs.lemmas.Option.{none-some, same_Some, slice_get-map, slice_get_within}
use Rattle.oc_linking.specs.{declared.terms.Binding.{Binding}, declared.terms.Binding.TheVariants.{Local, Global as GlobalBinding, Undefined, Common, Weak}}
use Rattle.oc_linking.specs.{declared.terms.Keep.{Keep}, declared.terms.Less.{Less}, FirstFault.{first_fault, stage_fault}, Fits.{bytes_of}, Values.{numbered}}
use Rattle.oc_linking.specs.declared.terms.Less.TheVariants as less
use Rattle.oc_linking.specs.declared.terms.Value.TheVariants as value
use Rattle.oc_linking.specs.Parts as parts
use Rattle.oc_linking.specs.Rules as rules
use Rattle.oc_linking.specs.Targets as file_targets
use Rattle.oc_neutral.specs.{declared.reloc.Reloc.{Reloc}, declared.reloc.Target.{Target}, declared.symbol.Symbol.{Symbol}, Building.{Draft, is_zero}}
use Rattle.oc_neutral.specs.{Faces.{number_of}, Invariants.{AreBytes, CanAdd, IsBinding, IsLessThere, IsTargetThere, NamesOriginal}}
use Rattle.oc_neutral.specs.Normal.{Place, local_place, place_among}
use Rattle.oc_neutral.specs.declared.reloc.Target.TheVariants as target
use Rattle.oc_shows.specs.{Built.{HasAdded, IsStarted}, Computed.{computed_symbol, position_of}, Started.{stored_section}}
use Rattle.oc_omf.specs.{declared.structures.Fixup.{Fixup}, declared.structures.Method.{Method}, declared.structures.Segment.{Segment}}
use Rattle.oc_omf.specs.{Entries.{Entry, entries_in}, Fields.{fixups_in}, Fixups.{Fixed}, RelocationFaults.{relocation_stages}, Rules.{omf_dialect}}
use Rattle.oc_omf.specs.{SectionFaults.{section_stage}, Sections.{is_covered, section_of, sections_in, segment_kind, segment_size}, Structures.{External}}
use Rattle.oc_omf.specs.{SymbolFaults.{symbol_stages}, Symbols.{external_mention, symbols_in}, Tables.{indexed, is_there, name_at, tables_of}}
use Rattle.oc_omf.specs.Targets.{Meaning, external_at, meaning_of, target_of}
use Rattle.oc_omf.specs.Symbols as symbols_
use Rattle.oc_omf.specs.Tables as all
use Rattle.oc_omf_read.specs.{declared.fields.FixupField.{FixupField}, declared.fix.Fix.{Fix}, declared.fix.FixupFrame.{FixupFrame}, Aims.{fix_by, framed_of}}
use Rattle.oc_omf_read.specs.{Built.{started}, Fields.{fields_of, given_with, is_among}, Given.{against, given_at}}
use Rattle.oc_omf_read.proofs.{BuildLemmas.{as_many_sections, section_at}, FixLemmas.{reloc_as}, GivenFields.{number_stands}}
use Rattle.oc_omf_read.proofs.ListedFields.{IsFromFixup, IsStanding, among_same, field_given, fix_made, given_standing, listed_at, not_among, standing_among}
use Rattle.oc_omf_read.proofs.PlacedFixups.{IsAt, at_inside, good, sound}
use Rattle.oc_omf_read.proofs.StandingFields.{are_apart, are_of_file, differences_fit, standing_less, standing_target, standing_width}
use Rattle.oc_omf_read.proofs.{StartLemmas.{symbol_number, zero_uncovered}, WholeSymbols.{symbol_whole}}
use Rattle.oc_shows.proofs.AddedLaws.{AreAddable, IsTaken, taken}
use Rattle.oc_linking.proofs.Testing.{either_way}

-- a symbol of an external, by what is made of it
against_of : (m : Meaning) (segment : ℕ) (f : Fixup) (frame o : Option Method) (fix : Fix) → fix_by m segment f frame o ≡ Some fix → (method : Method) × (o ≡ Some method) × (against m method ≡ Some fix.target)
against_of m segment f frame None fix e = absurd (none-some fix e)
against_of m segment f frame (Some method) fix e = by_target (target_of m method) e
  where
    made : (t : Target) (n : rules.Named) (o : Option FixupFrame) → option_map (λ (framed : FixupFrame). record { framed = framed; target = t; displacement = f.displacement }) o ≡ Some fix → t ≡ fix.target
    made t n o e = grind arith

    by_against : (u : file_targets.Target) (o : Option Target) → against m method ≡ o
        → option_and_then (λ (aim : Target × rules.Named). option_map (λ (framed : FixupFrame). record { framed = framed; target = aim.0; displacement = f.displacement }) (framed_of m segment f frame aim.1)) (option_map (λ (t : Target). (t, u.named)) o) ≡ Some fix
        → (other : Method) × (Some method ≡ Some other) × (against m other ≡ Some fix.target)
    by_against u None h e = absurd (none-some fix e)
    by_against u (Some t) h e = (method, refl, h ∙ ap Some (made t u.named (framed_of m segment f frame u.named) e))

    by_target : (o : Option file_targets.Target)
        → option_and_then (λ (aim : Target × rules.Named). option_map (λ (framed : FixupFrame). record { framed = framed; target = aim.0; displacement = f.displacement }) (framed_of m segment f frame aim.1))
        (option_and_then (λ (u : file_targets.Target). option_map (λ (t : Target). (t, u.named)) (against m method)) o) ≡ Some fix
        → (other : Method) × (Some method ≡ Some other) × (against m other ≡ Some fix.target)
    by_target None e = absurd (none-some fix e)
    by_target (Some u) e = by_against u (against m method) refl e

module _ (file : List ℕ) (bytes : AreBytes file) (keep : Keep) (sections : stage_fault (section_stage (entries_in file)) ≡ None) (symbols : first_fault (symbol_stages (entries_in file)) ≡ None)
    (relocs : first_fault (relocation_stages (entries_in file) keep) ≡ None) (few : length (symbols_in (entries_in file)) ≤ 4294967295) where
  abbrev pub es : List Entry
  es = entries_in file

  abbrev pub t : all.Tables
  t = tables_of es

  abbrev pub m : Meaning
  m = meaning_of es

  abbrev pub ss : List parts.Symbol
  ss = symbols_in es

  abbrev pub base : Draft
  base = started file

  abbrev pub Standing : ℕ → ℕ → Reloc → Type 0
  Standing s at r = IsStanding file keep sections relocs s at r

  -- ... what a relocation is against

  symbols_same : base.object.symbols ≡ map (computed_symbol ss) ss
  symbols_same = ap (map (computed_symbol ss)) (take-length ss)

  symbol_there : (k : ℕ) (y : parts.Symbol) → slice_get ss k ≡ Some y → slice_get base.object.symbols k ≡ Some (computed_symbol ss y)
  symbol_there k y here = ap (λ (xs : List Symbol). slice_get xs k) symbols_same ∙ slice_get-map (computed_symbol ss) ss k ∙ ap (option_map (computed_symbol ss)) here

  as_many : length base.object.sections ≡ length t.segments
  as_many = length-map (sections_in t) (stored_section []) ∙ as_many_sections t

  local_section : (b : Binding) (place : Place) → IsBinding base.object b → local_place b ≡ Some place → place.0 < length base.object.sections
  local_section (Local (value.Place k offset)) place whole e =
      let same : k ≡ place.0 = ap (λ (q : Place). q.0) (same_Some (k, offset) place e) in
      let low = slice_get_within base.object.sections k whole.0 whole.1 in
      omega (arith, same, low)
  local_section (Local (value.Absolute n)) place whole e = absurd (none-some place e)
  local_section (GlobalBinding v) place whole e = absurd (none-some place e)
  local_section Undefined place whole e = absurd (none-some place e)
  local_section (Common size align) place whole e = absurd (none-some place e)
  local_section (Weak f) place whole e = absurd (none-some place e)

  -- what a target is: a segment that is there, or a symbol that stands there
  pub record IsNamed (u : Target) : Type 0 where
    pub there : IsTargetThere base.object u
    pub original : NamesOriginal base.object.symbols u

  number_here : (k : ℕ) (y : parts.Symbol) → slice_get ss k ≡ Some y → number_of base.object.symbols k ≡ k
  number_here k y here = ap (λ (o : Option Symbol). option_map_or (λ (s : Symbol). s.number) o 0) (symbol_there k y here) ∙ symbol_number es k y here

  section_named : (k : ℕ) → k < length t.segments → IsNamed (target.Section k)
  unfolding place_among
  section_named k low = record { there = record { itself = let many = as_many in omega (arith, low, many); section = λ place e. absurd (none-some place e) }; original = tt }

  symbol_named : (k : ℕ) (y : parts.Symbol) → slice_get ss k ≡ Some y → IsNamed (target.Symbol k)
  unfolding place_among
  symbol_named k y here = record {
    there = record {
      itself = slice_get_within base.object.symbols k (computed_symbol ss y) (symbol_there k y here);
      section = λ place e.
          local_section (computed_symbol ss y).binding place (symbol_whole file bytes sections symbols few k y here).binding (sym (ap (option_and_then (λ (s : Symbol). local_place s.binding)) (symbol_there k y here)) ∙ e);
    };
    original = λ j low same.
        let inside = slice_get_within ss k y here in
        let x = there j ss (omega (arith, low, inside)) in
        let first = number_here j x.0 x.1 in
        let second = number_here k y here in
        absurd (omega (arith, low, first, second, same));
  }
    where
      there : (j : ℕ) (xs : List parts.Symbol) → j < length xs → (x : parts.Symbol) × (slice_get xs j ≡ Some x)
      there j [] low = absurd (omega (arith, low))
      there zero (x ∷ xs) low = (x, refl)
      there (suc j) (x ∷ xs) low = there j xs (omega (arith, low))

  external_named : (index : ℕ) (o : Option parts.Symbol) → external_at m index ≡ o → (u : Target) → option_map (λ (s : parts.Symbol). target.Symbol (position_of m.symbols s.number)) o ≡ Some u → IsNamed u
  unfolding meaning_of
  external_named index None e u is = absurd (none-some u is)
  external_named index (Some y) e u is =
      subst IsNamed (same_Some (target.Symbol (position_of ss y.number)) u is) (symbol_named (position_of ss y.number) y (by (indexed t.externals index) e))
    where
      by : (o : Option External) → option_and_then (λ x. numbered ss (symbols_.number_of (symbols_.mentions_in es) (external_mention x))) o ≡ Some y → slice_get ss (position_of ss y.number) ≡ Some y
      by None h = absurd (none-some y h)
      by (Some x) h = (number_stands ss (symbols_.number_of (symbols_.mentions_in es) (external_mention x)) y h).1

  against_named : (x : Method) (u : Target) → is_there t x ≡ true → against m x ≡ Some u → IsNamed u
  against_named x u there is = by (nat_eq x.number 0) (nat_eq x.number 2) refl is
    where
      inside : (a n : ℕ) → (nat_le 1 a && nat_le a n) ≡ true → a - 1 < n
      inside a n e = grind (arith, nat_tests)

      by : (c d : Bool) → nat_eq x.number 0 ≡ c → cond c (Some (target.Section (x.index - 1))) (cond d (option_map (λ (s : parts.Symbol). target.Symbol (position_of m.symbols s.number)) (external_at m x.index)) None) ≡ Some u → IsNamed u
      by true d e is =
          subst IsNamed (same_Some (target.Section (x.index - 1)) u is)
          (section_named (x.index - 1) (inside x.index (length t.segments)
          (sym (ap (λ b. cond b (nat_le 1 x.index && nat_le x.index (length t.segments))
          (cond (nat_eq x.number 1) (nat_le 1 x.index && nat_le x.index (length t.groups)) (cond (nat_eq x.number 2) (nat_le 1 x.index && nat_le x.index (length t.externals)) true))) e) ∙ there)))
      by false true e is = external_named x.index (external_at m x.index) refl u is
      by false false e is = absurd (none-some u is)

  pub standing_named : (s at : ℕ) (r : Reloc) → Standing s at r → IsNamed r.target
  unfolding meaning_of
  standing_named s at r d =
      let made = fix_made file keep sections relocs d.is_at.data_.segment d.f d.fix d.made in
      let a = against_of m d.is_at.data_.segment d.f.fixup d.f.frame d.f.target d.fix made.2 in
      subst IsNamed (sym (standing_target file keep sections relocs s at r d)) (against_named a.0 d.fix.target ((good file keep sections relocs s at d.p d.f d.is_at).known a.0 a.1) a.2)

  -- ... where it stands

  -- the section of a field, and its contents
  pub record IsInside (s at : ℕ) : Type 0 where
    pub segment : Segment
    pub there : slice_get t.segments s ≡ Some segment
    pub stored : is_zero (segment_kind t (s + 1) segment) ≡ false
    pub inside : at + 4 ≤ segment_size segment

  pub inside_at : (s at p : ℕ) (f : Fixed) → IsAt file keep sections relocs s at p f → IsInside s at
  inside_at s at p f a =
      let ok = sound file keep sections relocs s at p f a in
      let lies = at_inside file keep sections relocs s at p f a in
      let segment = a.segment in
      let same : a.data_.segment - 1 ≡ s = omega (arith, segment) in
      let inside = ok.placed.inside in
      let low = lies.0 in
      let high = lies.1 in
      let covered : is_covered t (s + 1) ≡ true = ap (is_covered t) (sym segment) ∙ ok.covered (omega (arith, low, high)) in
      record {
        segment = ok.placed.segment;
        there = ap (slice_get t.segments) (sym same) ∙ ok.placed.there;
        stored = not_zero (segment_kind t (s + 1) ok.placed.segment) (zero_uncovered (name_at t ok.placed.segment.class) (is_covered t (s + 1))) covered;
        inside = omega (arith, high, inside);
      }
    where
      not_zero : (k : _) → (is_zero k ≡ true → is_covered t (s + 1) ≡ false) → is_covered t (s + 1) ≡ true → is_zero k ≡ false
      not_zero k none covered = by (is_zero k) refl
        where
          by : (b : Bool) → is_zero k ≡ b → b ≡ false
          by b e = grind arith

  less_there : (l : Less) → ((k : ℕ) → l ≡ less.Section k → ⊥) → IsLessThere base.object l
  less_there l none = grind arith

  -- a relocation can be added before any other
  can_base : (s at : ℕ) (r : Reloc) → Standing s at r → CanAdd base.object s at r
  can_base s at r d =
      let i = inside_at s at d.p d.f d.is_at in
      let inside = i.inside in
      let width = ap bytes_of (standing_width file keep sections relocs s at r d) in
      record {
        section = stored_section [] (section_of t (s + 1, i.segment));
        there = slice_get-map (stored_section []) (sections_in t) s ∙ ap (option_map (stored_section [])) (section_at t s i.segment i.there);
        inside = subst (λ (b : Bool). at + bytes_of r.form.width ≤ cond b 0 (segment_size i.segment)) (sym i.stored) (omega (arith, inside, width));
        target = (standing_named s at r d).there;
        less = less_there r.form.less (standing_less file keep sections relocs s at r d);
      }

  module _ (start : IsStarted omf_dialect file keep base) where
    -- so each that is given can
    addable : AreAddable base (given_at es keep)
    addable = record {
      dialect = omf_dialect;
      file = file;
      keep = keep;
      start = start;
      apart = are_apart file keep sections relocs base.object start.symbols;
      fit = differences_fit file keep sections relocs base.object start.symbols;
      of_file = are_of_file file keep sections relocs base.object start.symbols;
      can = λ s at r given. can_base s at r (given_standing file keep sections relocs s at r given);
    }

    -- ... a field

    module _ (fields : List FixupField) (are : IsPermutation (fields_of m keep (fixups_in es)) fields) (j : ℕ) (e : FixupField) (below : j < length fields) where
      abbrev pub here : FixupField
      here = get_or fields j e

      listed : IsFromFixup file keep sections relocs 0 here
      listed = listed_at file keep sections relocs fields are j e below

      pub field_inside : IsInside here.section here.at
      field_inside = let l = listed in inside_at here.section here.at l.p l.is.f l.is.is_at

      one_place : (s at : ℕ) → is_among (take (j + 1) fields) s at ≡ (is_among (take j fields) s at || nat_eq s here.section && nat_eq here.at at)
      one_place s at = list_any_more (λ (f : FixupField). nat_eq f.section s && nat_eq f.at at) fields j e below ∙ ap (λ b. is_among (take j fields) s at || b && nat_eq here.at at) (either_way here.section s)

      pub field_taken : (d : Draft) → HasAdded base d (given_with es keep (take j fields)) → IsTaken base d here.section here.at (reloc_as m here.section here.at here.fix) (given_with es keep (take (j + 1) fields))
      field_taken d has =
          taken base (given_at es keep) addable (is_among (take j fields)) (is_among (take (j + 1) fields)) d here.section here.at (reloc_as m here.section here.at here.fix) (let l = listed in field_given file keep sections relocs l.p here l.is) has
          (not_among file keep sections relocs fields are j e below) one_place

    -- with all fields all is given
    pub all_done : (fields : List FixupField) → IsPermutation (fields_of m keep (fixups_in es)) fields → (n : ℕ) → n ≡ length fields → (s at : ℕ) → given_with es keep (take n fields) s at ≡ given_at es keep s at
    all_done fields are n all s at =
        ap (λ (xs : List FixupField). given_with es keep xs s at) (ap (λ (k : ℕ). take k fields) all ∙ take-length fields) ∙ by (is_among fields s at) refl
      where
        by : (b : Bool) → is_among fields s at ≡ b → cond b (given_at es keep s at) None ≡ given_at es keep s at
        by true h = refl
        by false h = of (given_at es keep s at) refl
          where
            of : (o : Option Reloc) → given_at es keep s at ≡ o → None ≡ o
            of None g = refl
            of (Some r) g = absurd (true≢false (sym (among_same file keep sections relocs fields are s at ∙ standing_among file keep sections relocs s at r (given_standing file keep sections relocs s at r g)) ∙ h))
