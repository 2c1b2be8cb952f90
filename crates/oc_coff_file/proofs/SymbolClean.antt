-- The symbols of a canonical file are well formed.
use Rattle.oc_coff.specs.{Forms.{shape_of}, declared.form.CoffForm.{CoffForm}, declared.symbol.SymbolEntry.{SymbolEntry}, Tables.{SectionTable, Slot}}
use Rattle.oc_coff.specs.{Names.{is_nothing, symbol_name}, Sections.{position_of, sections_in}}
use Rattle.oc_coff.specs.{Entries.{Entry, entry_numbered, has_section, is_class, entries_in, name_of}, Symbols.{tagged_by}}
use Rattle.oc_coff.specs.SymbolFaults.{is_no_section, is_known, is_static, is_external, is_uncarried, can_be_tagged, tag_conditions, is_named, name_conditions, symbol_conditions, symbol_stage, is_past_end, is_undefined}
use Rattle.oc_coff.specs.Values.{numbers_of, numbers_by, default_numbers, type_by, class_by, aux_by}
use Rattle.std.proofs.Common.{◌≡◌, ℕ, zero, suc, ◌+◌, ◌<◌, ◌≤◌, Bool, true, false, cond, not, ◌&&◌, ◌||◌, eqb, List, [], ◌∷◌, ◌++◌, length, take, Option, Some, None, refl, sym, ◌∙◌, ap, subst, inl, inr, arith, option_and_then}
use Rattle.std.specs.{Prelude.{slice_get, nat_lt, is_none, codes}, List.{enumerate_from, list_any}, Option.{option_map_or, unwrap_or}}
use Rattle.std.proofs.lemmas.{Bool.{true≢false, ne_eqb, le-leb, cases_lt, false_from_ne_true, and_parts}, Slice.Eq.{bytes_eq-Decides}, List.{length-map}}
use Rattle.std.proofs.lemmas.{List.FromFn.{length-enumerate_from}, Option.{none-some, slice_get_within}, List.Folds.{list_any-append}}
use Rattle.oc_linking.specs.{declared.terms.Value.{Value}, declared.terms.Fallback.{Fallback}, declared.terms.Binding.{Binding}}
use Rattle.oc_linking.specs.{declared.terms.Binding.TheVariants.{Local, Global, Undefined, Common, Weak}, Parts.{is_local}, FirstFault.{Condition}}
use Rattle.oc_neutral.specs.{declared.section.Section.{Section}, declared.symbol.Symbol.{Symbol}, Objects.{Object}}
use Rattle.oc_neutral.specs.{Coff.Strings.{default_name, has_default, is_long, is_tabled}, KindRules.{has_nul, begins}}
use Rattle.oc_shelf.specs.Writing.Parts.{Laid}
use Rattle.oc_shelf.proofs.{WritingLaws.PartLemmas.{laid_within}, WritingLaws.MemberLemmas.{of_map, member_map, none_passes}}
use Rattle.oc_shelf.proofs.ReadingLaws.StageLemmas.{Unbroken, unbroken_append, IsUnbroken}
use Rattle.oc_coff_file.specs.Lines.{Line, SectionLine, LocalLine, DefaultLine, OuterLine, line_size, lines_of, numbered_lines, entry_count, is_default_line, is_outer_line}
use Rattle.oc_coff_file.specs.Canonical.{header_at, entry, tag_of, line_entry, symbol_field, string_table, entry_rows}
use Rattle.oc_coff_file.proofs.{PartLaws.{length-entry_rows}, TableLaws.{made_table, made_tables, read_row}}
use Rattle.oc_coff_file.proofs.EntryLaws.{made_entry, outer_slot, line_slot, aux_count, sized_aux}
use Rattle.oc_coff_file.proofs.LineLaws.{IsLineOf, numbered_is_of, default_found, outer_found, one_outer, numbered_line}
use Rattle.oc_coff_file.proofs.CodedLaws.{IsCodedValue, IsCodedFallback, IsCodedBinding, IsCodedSymbol, IsCodedLine, IsForCoff, outer_coded, fewest}
use Rattle.oc_coff_file.proofs.{SymbolLaws.{S, E, position_made, entry_where, numbered_coded, tag_read}, NameLaws.{symbol_named}, SectionClean.{and_false}}
use Rattle.oc_coff_file.proofs.{HeaderClean.{within_file}, CodableLaws.{HasNumbers}, KeyLaws.{numbered_section}}
use Rattle.oc_neutral.proofs.Positions.{there_at}
use Rattle.oc_shows.specs.SymbolLines.{is_weak_with}
use Rattle.oc_linking.specs.declared.terms.Value.TheVariants as value
use Rattle.oc_linking.specs.declared.terms.Fallback.TheVariants as fallback

header_size : (w : CoffForm) (n : Object) (k : ℕ) (s : Section) → (made_table w n (k, s)).header.SizeOfRawData ≡ s.size
unfolding header_at
header_size w n k s = refl

taken_below : {X : Type 0} (i : ℕ) (xs : List X) (j : ℕ) (x : X) → slice_get (take i xs) j ≡ Some x → (j < i) × (slice_get xs j ≡ Some x)
taken_below zero xs j x h = absurd (none-some x h)
taken_below (suc i) [] j x h = absurd (none-some x h)
taken_below (suc i) (y ∷ xs) zero x h = (omega arith, h)
taken_below (suc i) (y ∷ xs) (suc j) x h = let l = taken_below i xs j x h in (omega (arith, l.0), l.1)

module _ (w : CoffForm) (n : Object) (is : IsForCoff w n) (numbers : HasNumbers w n) (sections : sections_in (made_tables w n) ≡ S w n is) (entries : entries_in (made_tables w n) ≡ E w n is) where
  abbrev lines : List (Laid Line)
  lines = numbered_lines w n

  -- the value and the section number of an entry break nothing
  pub record AreClean (s : SymbolEntry) : Type 0 where
    pub there : is_no_section (length n.sections) s.SectionNumber ≡ false
    pub inside : is_past_end (made_tables w n) s ≡ false
    pub carried : is_uncarried (S w n is) s ≡ false

  -- what an entry is to meet, but for its name
  pub record IsCleanEntry (e : Entry) : Type 0 where
    pub own : AreClean e.symbol
    pub known : is_known e.symbol ≡ true
    pub static : (is_static e.symbol && is_undefined e.symbol) ≡ false
    pub weak : (is_class 105 e.symbol && not (is_undefined e.symbol)) ≡ false
    pub tag : Unbroken (cond (is_class 105 e.symbol) (tag_conditions (made_tables w n) e (tagged_by (entries_in (made_tables w n)) e)) [])

  -- the numbers of a value
  value_clean : (field : List ℕ) (v : Value) (type class aux : ℕ) → IsCodedValue n v → AreClean (entry field (numbers_of v) type class aux)
  value_clean field (value.Absolute x) type class aux c = record { there = refl; inside = refl; carried = refl }
  value_clean field (value.Place k offset) type class aux c =
      let low : k < length n.sections = slice_get_within n.sections k c.0 c.1 in
      let few = fewest w n is in
      let e : SymbolEntry = entry field (offset, k + 1) type class aux in
      let fits : nat_lt c.0.size offset ≡ false = within_file c.0.size offset c.2 in
      record {
        there = ap (λ b. cond b (nat_lt (length n.sections) (k + 1)) (nat_lt (k + 1) 0xFFFFFFFE)) (le-leb (k + 1) 0x7FFFFFFF (omega (arith, low, few))) ∙ within_file (length n.sections) (k + 1) (omega (arith, low));
        inside = ap (λ o. has_section e && option_map_or (λ (x : SectionTable). nat_lt x.header.SizeOfRawData offset) o false) (numbered_section w n is numbers.small entries numbers.auxes k c.0 c.1)
            ∙ ap (λ m. has_section e && nat_lt m offset) (header_size w n k c.0)
            ∙ ap (λ b. has_section e && b) fits ∙ and_false (has_section e);
        carried = ap (λ o. has_section e && is_none o) (position_made w n is k c.0 c.1) ∙ and_false (has_section e);
      }

  -- those of what is elsewhere
  elsewhere_clean : (field : List ℕ) (x type class aux : ℕ) → AreClean (entry field (x, 0) type class aux)
  elsewhere_clean field x type class aux = record { there = within_file (length n.sections) 0 (omega arith); inside = refl; carried = refl }

  -- a value has a section number
  value_some : (v : Value) → eqb (numbers_of v).1 0 ≡ false
  value_some v = grind arith

  -- an entry with its number and its auxiliary entry
  abbrev as_entry : ℕ → SymbolEntry → Option Slot → Entry
  as_entry number symbol aux = record { number = number; symbol = symbol; aux = aux }

  static_clean : (number : ℕ) (aux : Option Slot) (field : List ℕ) (v : Value) (type auxes : ℕ) → IsCodedValue n v → IsCleanEntry (as_entry number (entry field (numbers_of v) type 3 auxes) aux)
  static_clean number aux field v type auxes c = record { own = value_clean field v type 3 auxes c; known = refl; static = value_some v; weak = refl; tag = tt }

  external_clean : (number : ℕ) (aux : Option Slot) (field : List ℕ) (place : ℕ × ℕ) (type : ℕ) → AreClean (entry field place type 2 0) → IsCleanEntry (as_entry number (entry field place type 2 0) aux)
  external_clean number aux field place type clean = record { own = clean; known = refl; static = refl; weak = refl; tag = tt }

  -- what a weak external tags
  weak_tag : (number k : ℕ) (symbol : SymbolEntry) (s : Symbol) (f : Fallback) → slice_get n.symbols k ≡ Some s → s.binding ≡ Weak f → IsCodedFallback n f
      → Unbroken (tag_conditions (made_tables w n) (as_entry number symbol (outer_slot (shape_of w) lines k (Weak f))) (entry_numbered (E w n is) (tag_of lines k f)))
  weak_tag number k symbol s (fallback.Place j offset) here own c =
      let d = default_found w n k s here (ap (is_weak_with has_default) own) in
      let place : default_numbers s.binding ≡ (offset, j + 1) = ap default_numbers own in
      let position : position_of (S w n is) (j + 1) ≡ Some j = position_made w n is j c.0 c.1 in
      let low : j < length n.sections = slice_get_within n.sections j c.0 c.1 in
      let few = fewest w n is in
      rw (sections, entry_where w n is (is_default_line k) (DefaultLine k s) d, place, position, ne_eqb (j + 1) 0xFFFFFFFF (omega (arith, low, few))) (refl, (refl, tt))
  weak_tag number k symbol s fallback.Zero here own c =
      let d = default_found w n k s here (ap (is_weak_with has_default) own) in
      let place : default_numbers s.binding ≡ (0, 0xFFFFFFFF) = ap default_numbers own in
      rw (sections, entry_where w n is (is_default_line k) (DefaultLine k s) d, place) (refl, (refl, tt))
  weak_tag number k symbol s (fallback.Name j) here own c =
      let u = outer_found w n is.format j c.0 c.1 c.2 in
      let coded = outer_coded w n is j c.0 c.1 c.2 in
      let other : eqb (numbers_by c.0.binding).1 0xFFFFFFFE ≡ false = not_debug c.0.binding coded.binding in
      rw (sections, entry_where w n is (is_outer_line j) (OuterLine j c.0) u) (
        refl,
        (ap (λ b. not b) (can_tag (class_by c.0.binding) c.3 (numbers_by c.0.binding).0 (numbers_by c.0.binding).1 (type_by c.0.mark) (aux_by c.0.binding) (symbol_field w n c.0.name) other), tt),
      )
    where
      can_tag : (class : ℕ) → class ≡ 2 → (v sec type aux : ℕ) (field : List ℕ) → eqb sec 0xFFFFFFFE ≡ false → can_be_tagged (S w n is) (entry field (v, sec) type class aux) ≡ true
      can_tag class e v sec type aux field other =
          ap (λ k. can_be_tagged (S w n is) (entry field (v, sec) type k aux)) e ∙ ap (λ b. not b) other

      low_section : (k : ℕ) (s : Section) → slice_get n.sections k ≡ Some s → eqb (k + 1) 0xFFFFFFFE ≡ false
      low_section k s there = let low : k < length n.sections = slice_get_within n.sections k s there in let few = fewest w n is in ne_eqb (k + 1) 0xFFFFFFFE (omega (arith, low, few))

      not_debug : (b : Binding) → IsCodedBinding n b → eqb (numbers_by b).1 0xFFFFFFFE ≡ false
      not_debug b c = grind (arith, low_section)

  weak_clean : (number k : ℕ) (symbol : SymbolEntry) (s : Symbol) (f : Fallback) → slice_get n.symbols k ≡ Some s → s.binding ≡ Weak f → IsCodedFallback n f
      → Unbroken (tag_conditions (made_tables w n) (as_entry number symbol (outer_slot (shape_of w) lines k (Weak f))) (tagged_by (entries_in (made_tables w n)) (as_entry number symbol (outer_slot (shape_of w) lines k (Weak f)))))
  weak_clean number k symbol s f here own c =
      subst (λ d. Unbroken (tag_conditions (made_tables w n) (as_entry number symbol (outer_slot (shape_of w) lines k (Weak f))) d))
      (sym (ap (λ es. tagged_by es (as_entry number symbol (outer_slot (shape_of w) lines k (Weak f)))) entries ∙ ap (option_and_then (entry_numbered (E w n is))) (tag_read w n is numbers.tags k s f here own)))
      (weak_tag number k symbol s f here own c)

  -- a symbol that is not Local
  outer_clean : (number k : ℕ) (field : List ℕ) (type : ℕ) (s : Symbol) (b : Binding) → slice_get n.symbols k ≡ Some s → s.binding ≡ b → IsCodedBinding n b → is_local b ≡ false
      → IsCleanEntry (as_entry number (entry field (numbers_by b) type (class_by b) (aux_by b)) (outer_slot (shape_of w) lines k b))
  outer_clean number k field type s (Local v) here own c o = absurd (true≢false o)
  outer_clean number k field type s (Global v) here own c o = external_clean number None field (numbers_of v) type (value_clean field v type 2 0 c)
  outer_clean number k field type s Undefined here own c o = external_clean number None field (0, 0) type (elsewhere_clean field 0 type 2 0)
  outer_clean number k field type s (Common size align) here own c o = external_clean number None field (size, 0) type (elsewhere_clean field size type 2 0)
  outer_clean number k field type s (Weak f) here own c o = record {
    own = elsewhere_clean field 0 type 105 1;
    known = refl;
    static = refl;
    weak = refl;
    tag = weak_clean number k (entry field (0, 0) type 105 1) s f here own c;
  }

  local_clean : (number : ℕ) (field : List ℕ) (type : ℕ) (b : Binding) → is_local b ≡ true → IsCodedBinding n b → IsCleanEntry (as_entry number (entry field (numbers_by b) type 3 0) None)
  local_clean number field type (Local v) o c = static_clean number None field v type 0 c
  local_clean number field type (Global v) o c = absurd (true≢false (sym o))
  local_clean number field type Undefined o c = absurd (true≢false (sym o))
  local_clean number field type (Common size align) o c = absurd (true≢false (sym o))
  local_clean number field type (Weak f) o c = absurd (true≢false (sym o))

  default_clean : (number : ℕ) (field : List ℕ) (b : Binding) → is_weak_with has_default b ≡ true → IsCodedBinding n b → IsCleanEntry (as_entry number (entry field (default_numbers b) 0 3 0) None)
  default_clean number field (Local v) o c = absurd (true≢false (sym o))
  default_clean number field (Global v) o c = absurd (true≢false (sym o))
  default_clean number field Undefined o c = absurd (true≢false (sym o))
  default_clean number field (Common size align) o c = absurd (true≢false (sym o))
  default_clean number field (Weak (fallback.Place k offset)) o c = static_clean number None field (value.Place k offset) 0 0 c
  default_clean number field (Weak fallback.Zero) o c = static_clean number None field (value.Absolute 0) 0 0 (omega arith)
  default_clean number field (Weak (fallback.Name j)) o c = absurd (true≢false (sym o))

  -- every line
  line_clean : (i : ℕ) (at : ℕ) (x : Line) → slice_get lines i ≡ Some (record { at = at; part = x }) → IsCleanEntry (made_entry w n (record { at = at; part = x }))
  line_clean i at (SectionLine k s) here =
      let o : slice_get n.sections k ≡ Some s = numbered_is_of w n i (record { at = at; part = SectionLine k s }) here in
      static_clean at (line_slot w n (SectionLine k s)) (symbol_field w n s.name) (value.Place k 0) 0 1 (s, o, omega arith)
  line_clean i at (LocalLine k s) here =
      let l : Laid Line = record { at = at; part = LocalLine k s } in
      local_clean at (symbol_field w n s.name) (type_by s.mark) s.binding (numbered_is_of w n i l here).1 (numbered_coded w n is i l here).binding
  line_clean i at (DefaultLine k s) here =
      let l : Laid Line = record { at = at; part = DefaultLine k s } in
      default_clean at (symbol_field w n (default_name s.name)) s.binding (numbered_is_of w n i l here).1 (numbered_coded w n is i l here).0.binding
  line_clean i at (OuterLine k s) here =
      let l : Laid Line = record { at = at; part = OuterLine k s } in
      let o = numbered_is_of w n i l here in
      outer_clean at k (symbol_field w n s.name) (type_by s.mark) s s.binding o.0 refl (numbered_coded w n is i l here).binding o.1

  -- ... names

  -- each name of the table is read
  long_default : (name : List ℕ) → (has_nul name ≡ false) → (has_nul (default_name name) ≡ false)
  long_default name none =
      list_any-append (eqb 0) (codes ".weak.") (name ++ codes ".default")
      ∙ list_any-append (eqb 0) name (codes ".default")
      ∙ ap (λ b. b || list_any (eqb 0) (codes ".default")) none

  line_named : (i : ℕ) (l : Laid Line) → slice_get lines i ≡ Some l → is_none (symbol_name (string_table w n) (line_entry w n l.part).Name) ≡ false
  line_named i l here = by l.part (numbered_coded w n is i l here)
    where
      long_tabled : (name : List ℕ) → is_long name ≡ true → is_tabled name ≡ true
      long_tabled name e = ap (λ b. b || begins name (codes "/")) e

      by : (x : Line) → IsCodedLine w n x → is_none (symbol_name (string_table w n) (line_entry w n x).Name) ≡ false
      by x c = grind (arith, symbol_named, long_tabled, long_default)

  -- which entries are external
  external_is : (x : Line) → is_external (line_entry w n x) ≡ true → (k : ℕ) × (s : Symbol) × (x ≡ OuterLine k s)
  external_is x e = grind arith

  -- the name of the symbol of a line
  outer_name : (i : ℕ) (l : Laid Line) (k : ℕ) (s : Symbol) → slice_get lines i ≡ Some l → l.part ≡ OuterLine k s
      → (name_of (string_table w n) (made_entry w n l) ≡ s.name) × IsCodedSymbol w n s × (slice_get n.symbols k ≡ Some s) × (is_local s.binding ≡ false)
  outer_name i l k s here own =
      let c : IsCodedSymbol w n s = subst (IsCodedLine w n) own (numbered_coded w n is i l here) in
      let o : IsLineOf w n (OuterLine k s) = subst (IsLineOf w n) own (numbered_is_of w n i l here) in
      (ap (λ x. unwrap_or (symbol_name (string_table w n) (line_entry w n x).Name) []) own ∙ ap (λ q. unwrap_or q []) (symbol_named w n numbers.small s.name c.plain c.given), c, o.0, o.1)

  -- no name stands twice
  not_twice : (i j : ℕ) (l m : Laid Line) → j < i → slice_get lines i ≡ Some l → slice_get lines j ≡ Some m
      → is_named (string_table w n) (name_of (string_table w n) (made_entry w n l)) (made_entry w n l) ≡ true
      → is_named (string_table w n) (name_of (string_table w n) (made_entry w n l)) (made_entry w n m) ≡ true → ⊥
  not_twice i j l m before here there first second =
      let a = and_parts _ _ (and_parts _ _ first).0 in
      let b = and_parts _ _ second in
      let c = and_parts _ _ b.0 in
      let x = external_is l.part a.0 in
      let y = external_is m.part c.0 in
      let p = outer_name i l x.0 x.1 here x.2 in
      let q = outer_name j m y.0 y.1 there y.2 in
      let same : y.1.name ≡ x.1.name = sym q.0 ∙ (bytes_eq-Decides _ _).0 b.1 ∙ p.0 in
      let distinct = is.object.built.distinct in
      elim (cases_lt x.0 y.0) [
        | inl lt ↦ distinct x.0 y.0 x.1 y.1 lt p.2 q.2 p.3 q.3 (sym same)
        | inr ge ↦ elim (cases_lt y.0 x.0) [
          | inl lt ↦ distinct y.0 x.0 y.1 x.1 lt q.2 p.2 q.3 p.3 same
          | inr le ↦
              let e : x.0 ≡ y.0 = omega (arith, ge, le) in
              let f : slice_get (lines_of w n) i ≡ Some (OuterLine x.0 x.1) = numbered_line w n i l here ∙ ap Some x.2 in
              let g : slice_get (lines_of w n) j ≡ Some (OuterLine x.0 y.1) = numbered_line w n j m there ∙ ap Some y.2 ∙ ap (λ k. Some (OuterLine k y.1)) (sym e) in
              let index = one_outer w n is.format x.0 i j x.1 y.1 f g in
              absurd (omega (arith, index, before))
        ]
      ]

  some_name : (name : List ℕ) → 1 ≤ length name → is_nothing name ≡ false
  some_name name low = grind arith

  names_clean : (i : ℕ) (l : Laid Line) → slice_get lines i ≡ Some l → is_uncarried (S w n is) (line_entry w n l.part) ≡ false
      → Unbroken (name_conditions (made_tables w n) (take i (E w n is)) (name_of (string_table w n) (made_entry w n l)) (made_entry w n l))
  unfolding made_tables
  names_clean i l here carried =
      let e : Entry = made_entry w n l in
      let name : List ℕ = name_of (string_table w n) e in (
        ap (λ xs. is_class 2 e.symbol && is_uncarried xs e.symbol) sections ∙ ap (λ b. is_class 2 e.symbol && b) carried ∙ and_false (is_class 2 e.symbol),
        (
          by_class (is_external e.symbol) refl,
          (twice (is_named (string_table w n) name e) refl, tt),
        ),
      )
    where
      by_class : (b : Bool) → is_external (made_entry w n l).symbol ≡ b → (is_external (made_entry w n l).symbol && is_nothing (name_of (string_table w n) (made_entry w n l))) ≡ false
      by_class true e =
          let x = external_is l.part e in
          let p = outer_name i l x.0 x.1 here x.2 in
          ap (λ q. is_external (made_entry w n l).symbol && is_nothing q) p.0 ∙ ap (λ b. is_external (made_entry w n l).symbol && b) (some_name x.1.name p.1.some) ∙ and_false (is_external (made_entry w n l).symbol)
      by_class false e = ap (λ b. b && is_nothing (name_of (string_table w n) (made_entry w n l))) e

      twice : (b : Bool) → is_named (string_table w n) (name_of (string_table w n) (made_entry w n l)) (made_entry w n l) ≡ b
          → (is_named (string_table w n) (name_of (string_table w n) (made_entry w n l)) (made_entry w n l) && list_any (is_named (string_table w n) (name_of (string_table w n) (made_entry w n l))) (take i (E w n is))) ≡ false
      twice false e = ap (λ b. b && list_any (is_named (string_table w n) (name_of (string_table w n) (made_entry w n l))) (take i (E w n is))) e
      twice true e =
          ap (λ b. b && list_any (is_named (string_table w n) (name_of (string_table w n) (made_entry w n l))) (take i (E w n is))) e
          ∙ none_passes (is_named (string_table w n) (name_of (string_table w n) (made_entry w n l))) (take i (E w n is)) (λ j f there.
          let t = taken_below i (E w n is) j f there in
          let z = of_map (made_entry w n) lines j f t.1 in
          false_from_ne_true _ (λ yes. not_twice i j l z.0 t.0 here z.1 e (ap (is_named (string_table w n) (name_of (string_table w n) (made_entry w n l))) z.2 ∙ yes)))

  -- ... a symbol

  counted : length (made_tables w n).entries ≡ entry_count w n
  unfolding made_tables
  counted = length-map (entry_rows w n) (read_row (shape_of w)) ∙ length-entry_rows w n

  table_count : length (made_tables w n).sections ≡ length n.sections
  unfolding made_tables
  table_count = length-map (enumerate_from 0 n.sections) (made_table w n) ∙ length-enumerate_from 0 n.sections

  one_symbol_clean : (i : ℕ) (l : Laid Line) → slice_get lines i ≡ Some l → Unbroken (symbol_conditions (made_tables w n) (take i (E w n is)) (made_entry w n l))
  unfolding symbol_conditions made_tables
  one_symbol_clean i l here =
      let clean = line_clean i l.at l.part here in
      let count = counted in
      let size : 1 + (line_entry w n l.part).NumberOfAuxSymbols ≡ line_size l.part = ap (λ m. 1 + m) (aux_count w n l.part) ∙ sized_aux w n l.part in
      let inside : l.at + line_size l.part ≤ entry_count w n = laid_within line_size 0 (lines_of w n) i l here in
      let e : Entry = made_entry w n l in
      let tags : List Condition = cond (is_class 105 e.symbol) (tag_conditions (made_tables w n) e (tagged_by (entries_in (made_tables w n)) e)) [] in (
        within_file (length (made_tables w n).entries) (l.at + 1 + (line_entry w n l.part).NumberOfAuxSymbols) (omega (arith, count, size, inside)),
        (
          line_named i l here,
          (
            ap (λ c. is_no_section c (line_entry w n l.part).SectionNumber) table_count ∙ clean.own.there,
            (
              ap not clean.known,
              (
                clean.static,
                (
                  clean.weak,
                  (
                    clean.own.inside,
                    unbroken_append tags (name_conditions (made_tables w n) (take i (E w n is)) (name_of (string_table w n) e) e) clean.tag (names_clean i l here clean.own.carried),
                  ),
                ),
              ),
            ),
          ),
        ),
      )

  -- the symbols
  pub symbols_clean : IsUnbroken (symbol_stage (made_tables w n))
  symbols_clean i low =
      let count : length (entries_in (made_tables w n)) ≡ length lines = ap (λ (es : List Entry). length es) entries ∙ length-map lines (made_entry w n) in
      let l = there_at lines i (omega (arith, low, count)) in
      let here : slice_get (entries_in (made_tables w n)) i ≡ Some (made_entry w n l.0) = ap (λ es. slice_get es i) entries ∙ member_map (made_entry w n) lines i l.0 l.1 in
      subst (λ o. Unbroken (option_map_or (symbol_conditions (made_tables w n) (take i (entries_in (made_tables w n)))) o [])) (sym here)
      (subst (λ es. Unbroken (symbol_conditions (made_tables w n) (take i es) (made_entry w n l.0))) (sym entries) (one_symbol_clean i l.0 l.1))
