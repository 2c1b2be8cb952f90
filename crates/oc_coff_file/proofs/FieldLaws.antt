-- The fields of a canonical file are the relocations of the object that is seen.
use Rattle.std.proofs.Common.{◌≡◌, ℕ, ◌+◌, ◌%◌, ◌<◌, ◌≤◌, Bool, true, false, cond, not, ◌&&◌, eqb, ℤ, List, [], ◌∷◌, length, map, replicate, Option, Some, None, refl, sym, ◌∙◌, ap, subst, inl, inr, arith}
use Rattle.std.specs.{Prelude.{◌+ℤ◌, slice_get, find}, List.{enumerate_from, AllByRecursion}, Option.{option_map, option_map_or, option_and_then}}
use Rattle.std.proofs.lemmas.{Bool.{eqb-true, ne_eqb, cases_lt}, Option.{none-some, same_Some, slice_get_past}, List.{length-map}}
use Rattle.std.proofs.lemmas.List.FromFn.{length-enumerate_from}
use Rattle.oc_coff.specs.{declared.form.CoffForm.{CoffForm}, declared.relocation.Relocation.{Relocation}, Sections.{carried_in}, Targets.{target_in}}
use Rattle.oc_coff.specs.{Forms.{coff_format, format_of, word_of}, Fields.{relocates, field_by, field_in, fields_in}}
use Rattle.oc_base.specs.{Formats.{word_for}, Numbers.{number_at}}
use Rattle.oc_linking.specs.{declared.terms.Width.{Width}, declared.terms.Check.{Check}, declared.terms.Base.{Base}, declared.terms.Hint.{Hint}}
use Rattle.oc_linking.specs.{declared.terms.Patch.{Patch}, declared.terms.Less.{Less}, declared.terms.Kind.TheVariants.{Zero}, Fits.{bytes_of, span}}
use Rattle.oc_linking.specs.Shows.{Apart}
use Rattle.oc_linking.specs.Targets as file
use Rattle.oc_linking.proofs.Storing.{field_holds}
use Rattle.oc_algebra.specs.{Residues.{reduced_number}, Fields.{extended, to_field_of, from_field_of}}
use Rattle.oc_chains.specs.declared.field.Field as chains
use Rattle.oc_chains.specs.Lists.{list_of}
use Rattle.oc_neutral.specs.{declared.section.Section.{Section}, declared.reloc.Reloc.{Reloc}, declared.reloc.Target.{Target}, Building.{is_zero}}
use Rattle.oc_neutral.specs.{KindRules.{same_kind}, Objects.{Object, reloc_at, reloc_among}, RelocTables.{rows_of, row_of}}
use Rattle.oc_neutral.specs.Rows.{Row, TakesSection, same_taken, shift_of}
use Rattle.oc_target.specs.{CoffMeets.{CoffReloc}, Meets.{MeetsReloc}}
use Rattle.oc_shows.specs.{Manners.{coff_manner}, RowFields.{field_in_place, number_in}, RowValues.{row_reloc}, Seen.{seen_reloc, seen_target}}
use Rattle.oc_neutral.specs.Rows as rows
use Rattle.oc_neutral.proofs.{Mapped.{from_mapped}, Positions.{each_at, there_at}, Standing.{ends_by, wide_in}, Adding.{wide_enough}}
use Rattle.oc_shelf.specs.Writing.Parts.{Laid}
use Rattle.oc_shelf.proofs.WritingLaws.MemberLemmas.{member_map, member_enumerated, all_members}
use Rattle.oc_coff_file.specs.Lines.{Line, numbered_lines}
use Rattle.oc_coff_file.specs.Bodies.{number_or, number_by, field_number, field_patch, field_patches, raw_of, target_number, type_of, relocation_of, relocs_of}
use Rattle.oc_coff_file.proofs.{TableLaws.{made_tables}, CodedLaws.{IsForCoff, coded_section, seen_kind}, SectionLaws.{made_contents, made_carried}}
use Rattle.oc_coff_file.proofs.SeenLaws.{shown}
use Rattle.oc_shows.proofs.FoundLaws.{empty_past, found_in, less_back, holds_addend}

-- ... look-ups by offset

-- the entry of a relocation at an offset
abbrev pub entry_of : CoffForm → List (Laid Line) → ℕ → Reloc → Relocation
entry_of w lines at r = record { VirtualAddress = at; SymbolTableIndex = target_number lines r.target; «Type» = type_of w r }

-- fields of a section are found by offset in their list
find_by_offset : (w : CoffForm) (lines : List (Laid Line)) (xs : List (chains.Field Reloc)) (at : ℕ) → AllByRecursion (λ (x : chains.Field Reloc). eqb (type_of w x.item) 0 ≡ false) xs
    → find (relocates at) (map (relocation_of w lines) xs) ≡ option_map (entry_of w lines at) (reloc_among xs at)
find_by_offset w lines [] at says = refl
find_by_offset w lines (x ∷ xs) at says =
    ap (λ t. cond (eqb x.at at && not t) (Some (relocation_of w lines x)) (find (relocates at) (map (relocation_of w lines) xs))) says.0
    ∙ (elim (eqb x.at at) as (λ b. eqb x.at at ≡ b → cond (b && true) (Some (relocation_of w lines x)) (find (relocates at) (map (relocation_of w lines) xs))
    ≡ option_map (entry_of w lines at) (cond b (Some x.item) (reloc_among xs at))) [
      | true ↦ λ e. ap (λ k. Some (entry_of w lines k x.item)) (eqb-true x.at at e)
      | false ↦ λ e. find_by_offset w lines xs at says.1
    ] refl)

-- ... rows

-- no row of COFF takes a section
no_sections : (w : CoffForm) → AllByRecursion (λ (row : Row). same_taken row.taken TakesSection ≡ false) (rows_of (format_of w))
no_sections w = grind arith

-- a word and a form have the same rows
pub row_same : (w : CoffForm) (number : ℕ) → row_of (coff_format (word_of w)) number ≡ row_of (format_of w) number
row_same w number = grind arith

module _ (w : CoffForm) (n : Object) (is : IsForCoff w n) where
  abbrev lines : List (Laid Line)
  lines = numbered_lines w n

  -- the row of a relocation
  module _ (k at : ℕ) (r : Reloc) (there : reloc_at n k at ≡ Some r) where
    pub coff_reloc : CoffReloc (format_of w) n k at r
    coff_reloc = is.meets.relocs k at r there

    abbrev pub meets : MeetsReloc (format_of w) n k at r
    meets = coff_reloc.meets

    abbrev pub row : Row
    row = meets.row

    pub type_is : type_of w r ≡ row.number
    unfolding type_of
    type_is = ap (λ o. option_map_or (λ (x : Row). x.number) o 0) meets.is.written

    pub row_found : row_of (coff_format (word_of w)) (type_of w r) ≡ Some row
    row_found = row_same w (type_of w r) ∙ ap (row_of (format_of w)) type_is ∙ coff_reloc.found

    pub says_something : eqb (type_of w r) 0 ≡ false
    says_something = let l = coff_reloc.number.0 in ap (λ m. eqb m 0) type_is ∙ ne_eqb row.number 0 (omega (arith, l))

    -- it stands in its section
    pub inside : (s : Section) → slice_get n.sections k ≡ Some s → at + bytes_of r.form.width ≤ length s.bytes
    inside s here = let same = same_Some meets.section s (sym meets.there ∙ here) in subst (λ (x : Section). at + bytes_of r.form.width ≤ length x.bytes) same meets.inside

    pub number_is : number_by w r row ≡ coff_reloc.holds.0
    number_is = ap (λ f. number_or (to_field_of f r.form.width (shift_of row) r.addend)) (sym (word_back w)) ∙ ap number_or coff_reloc.holds.1
      where
        word_back : (w : CoffForm) → word_for (format_of w) ≡ word_of w
        word_back w = grind arith

    pub row_takes : rows.less_of row.taken k ≡ r.form.less
    row_takes = less_back r.form.less row.taken k coff_reloc.taken (each_at (λ (x : Row). same_taken x.taken TakesSection ≡ false) (rows_of (format_of w)) meets.is.position row (no_sections w) meets.is.there)

  says : (k : ℕ) → AllByRecursion (λ (x : chains.Field Reloc). eqb (type_of w x.item) 0 ≡ false) (list_of n.relocs k)
  says k = all_members (λ (x : chains.Field Reloc). eqb (type_of w x.item) 0 ≡ false) (list_of n.relocs k)
      (λ i x h. says_something k x.at x.item (found_in 0 (list_of n.relocs k) (is.object.built.fields.apart k) i x h).1)

  -- no relocation stands in a section that is not there
  pub none_past : (k at : ℕ) → length n.sections ≤ k → reloc_at n k at ≡ None
  none_past k at high =
      let counted = is.object.built.fields.counted in
      ap (λ xs. reloc_among xs at) (empty_past n.relocs k (omega (arith, counted, high)))

  apart_by : (k i j : ℕ) (r q : Reloc) → reloc_at n k i ≡ Some r → reloc_at n k j ≡ Some q → i < j → i + bytes_of r.form.width ≤ j
  apart_by k i j r q here there before = elim (cases_lt k (length n.sections)) [
    | inl low ↦
        let s = there_at n.sections k low in
        ends_by 0 (list_of n.relocs k) (is.object.built.fields.apart k) (wide_in n is.object k s.0 s.1) i j r q here there before
    | inr high ↦ absurd (none-some r (sym (none_past k i (omega (arith, high))) ∙ here))
  ]

  pub apart_patches : (k : ℕ) → Apart (field_patches w n k)
  apart_patches k i j q r here there before =
      let a = from_mapped (field_patch w) (reloc_at n k i) q here in
      let b = from_mapped (field_patch w) (reloc_at n k j) r there in
      let ends = apart_by k i j a.0 b.0 a.1 b.1 before in
      let wide : bytes_of q.width ≡ bytes_of a.0.form.width = ap (λ (x : Patch). bytes_of x.width) (sym a.2) in
      omega (arith, ends, wide)

  -- a section with a relocation has bytes
  pub has_bytes : (k : ℕ) (s : Section) → slice_get n.sections k ≡ Some s → (at : ℕ) (r : Reloc) → reloc_at n k at ≡ Some r → (is_zero s.kind ≡ false) × (length s.bytes ≡ s.size)
  has_bytes k s here at r there =
      let low = inside k at r there s here in
      let wide = wide_enough r.form.width in
      let c = coded_section w n is k s here in
      by (is_zero s.kind) refl c.bytes (omega (arith, low, wide))
    where
      by : (b : Bool) → is_zero s.kind ≡ b → length s.bytes ≡ cond b 0 s.size → 1 ≤ length s.bytes → (is_zero s.kind ≡ false) × (length s.bytes ≡ s.size)
      by b e bytes many = grind arith

  -- the number in a field
  number_there : (k : ℕ) (s : Section) → slice_get n.sections k ≡ Some s → (at : ℕ) (r : Reloc) → reloc_at n k at ≡ Some r
      → number_at (made_contents w n (k, s)) at (bytes_of r.form.width) ≡ field_number w r % span r.form.width
  unfolding raw_of
  number_there k s here at r there =
      let stored : same_kind Zero (seen_kind s) ≡ false = (coded_section w n is k s here).zeros ∙ (has_bytes k s here at r there).0 in
      ap (λ b. number_at (cond b (replicate s.size 0) (raw_of w n k s)) at (bytes_of r.form.width)) stored
      ∙ field_holds (field_patches w n k) (apart_patches k) s.bytes at (field_patch w r) (ap (option_map (field_patch w)) there) (inside k at r there s here)

  -- the relocation that its row makes of the field's number is the one that is seen
  pub reloc_made : (k : ℕ) (s : Section) → slice_get n.sections k ≡ Some s → (at : ℕ) (r : Reloc) (there : reloc_at n k at ≡ Some r)
      → row_reloc (word_of w) (row k at r there) k (number_in (row k at r there) (made_contents w n (k, s)) at) (seen_target (shown n) r.target) ≡ seen_reloc coff_manner n (shown n) r
  unfolding field_number from_field_of
  reloc_made k s here at r there =
      let x : Row = row k at r there in
      let m : MeetsReloc (format_of w) n k at r = meets k at r there in
      let contents : List ℕ = made_contents w n (k, s) in
      let t : Target = seen_target (shown n) r.target in
      let shift : ℤ = shift_of x in
      let F : ℕ = (coff_reloc k at r there).holds.0 in
      let word : word_for (format_of w) ≡ word_of w = word_back w in
      let held = holds_addend (word_of w) r.form.width shift r.addend F (ap (λ f. to_field_of f r.form.width shift r.addend) (sym word) ∙ (coff_reloc k at r there).holds.1) in
      let stored : field_number w r ≡ F = ap (λ o. option_map_or (number_by w r) o 0) m.is.written ∙ number_is k at r there in
      let number : number_at contents at (bytes_of r.form.width) ≡ F = number_there k s here at r there ∙ ap (λ f. f % span r.form.width) stored ∙ held.0 in
      let addend : reduced_number (word_of w) (number_in x contents at +ℤ shift) ≡ reduced_number (word_for n.format) r.addend
      = ap (λ k. reduced_number (word_of w) (extended k (number_at contents at (bytes_of k)) +ℤ shift)) m.is.width
      ∙ ap (λ f. reduced_number (word_of w) (extended r.form.width f +ℤ shift)) number ∙ held.1
      ∙ ap (λ f. reduced_number f r.addend) (sym (ap word_for is.format ∙ word)) in
      let made : Base → Less → Width → Check → ℤ → Hint → Reloc = λ base l width check a hint. record { target = t; form = record { base = base; less = l; width = width; check = check }; addend = a; hint = hint } in
      let a : ℤ = reduced_number (word_of w) (number_in x contents at +ℤ shift) in
      ap (λ b. made b (rows.less_of x.taken k) x.width x.check a x.hint) m.is.base
      ∙ ap (λ l. made r.form.base l x.width x.check a x.hint) (row_takes k at r there)
      ∙ ap (λ k. made r.form.base r.form.less k x.check a x.hint) m.is.width
      ∙ ap (λ c. made r.form.base r.form.less r.form.width c a x.hint) m.is.check
      ∙ ap (λ b. made r.form.base r.form.less r.form.width r.form.check b x.hint) addend
      ∙ ap (λ h. made r.form.base r.form.less r.form.width r.form.check (reduced_number (word_for n.format) r.addend) h) (coff_reloc k at r there).hint
    where
      word_back : (w : CoffForm) → word_for (format_of w) ≡ word_of w
      word_back w = grind arith

  -- ... fields of a section

  module _ (k : ℕ) (s : Section) (here : slice_get n.sections k ≡ Some s) (at : ℕ) where
    -- by the relocation at an offset
    field_found : field_in (word_of w) (target_in (word_of w) (made_tables w n)) k at (made_carried w n (k, s))
        ≡ option_and_then (λ (r : Reloc). field_by (word_of w) (target_in (word_of w) (made_tables w n)) k (made_contents w n (k, s)) (entry_of w lines at r)) (reloc_at n k at)
    unfolding relocs_of
    field_found =
        ap (option_and_then (field_by (word_of w) (target_in (word_of w) (made_tables w n)) k (made_contents w n (k, s)))) (find_by_offset w lines (list_of n.relocs k) at (says k))
        ∙ by (reloc_at n k at)
      where
        by : (o : Option Reloc) → option_and_then (field_by (word_of w) (target_in (word_of w) (made_tables w n)) k (made_contents w n (k, s))) (option_map (entry_of w lines at) o)
            ≡ option_and_then (λ (r : Reloc). field_by (word_of w) (target_in (word_of w) (made_tables w n)) k (made_contents w n (k, s)) (entry_of w lines at r)) o
        by None = refl
        by (Some r) = refl

    pub field_made : (r : Reloc) (there : reloc_at n k at ≡ Some r) (u : file.Target) → target_in (word_of w) (made_tables w n) (target_number lines r.target) ≡ Some u
        → field_in (word_of w) (target_in (word_of w) (made_tables w n)) k at (made_carried w n (k, s)) ≡ Some (field_in_place (word_of w) (row k at r there) (made_contents w n (k, s)) k at u)
    unfolding field_by
    field_made r there u aimed =
        field_found
        ∙ ap (option_and_then (λ (r : Reloc). field_by (word_of w) (target_in (word_of w) (made_tables w n)) k (made_contents w n (k, s)) (entry_of w lines at r))) there
        ∙ ap (option_and_then (λ (x : Row). option_map (field_in_place (word_of w) x (made_contents w n (k, s)) k at) (target_in (word_of w) (made_tables w n) (target_number lines r.target)))) (row_found k at r there)
        ∙ ap (option_map (field_in_place (word_of w) (row k at r there) (made_contents w n (k, s)) k at)) aimed

    pub no_field : reloc_at n k at ≡ None → field_in (word_of w) (target_in (word_of w) (made_tables w n)) k at (made_carried w n (k, s)) ≡ None
    no_field none = field_found ∙ ap (option_and_then (λ (r : Reloc). field_by (word_of w) (target_in (word_of w) (made_tables w n)) k (made_contents w n (k, s)) (entry_of w lines at r))) none

  -- ... fields of the file

  module _ (carried : carried_in (made_tables w n) ≡ map (made_carried w n) (enumerate_from 0 n.sections)) where
    pub fields_there : (k : ℕ) (s : Section) → slice_get n.sections k ≡ Some s → (at : ℕ) → fields_in (word_of w) (made_tables w n) k at ≡ field_in (word_of w) (target_in (word_of w) (made_tables w n)) k at (made_carried w n (k, s))
    unfolding fields_in
    fields_there k s here at =
        let e : 0 + k ≡ k = omega arith in
        ap (λ cs. option_and_then (field_in (word_of w) (target_in (word_of w) (made_tables w n)) k at) (slice_get cs k)) carried
        ∙ ap (option_and_then (field_in (word_of w) (target_in (word_of w) (made_tables w n)) k at))
        (member_map (made_carried w n) (enumerate_from 0 n.sections) k (0 + k, s) (member_enumerated 0 n.sections k s here) ∙ ap (λ i. Some (made_carried w n (i, s))) e)

    pub fields_past : (k at : ℕ) → length n.sections ≤ k → fields_in (word_of w) (made_tables w n) k at ≡ None
    unfolding fields_in
    fields_past k at high =
        let past : length (map (made_carried w n) (enumerate_from 0 n.sections)) ≤ k = omega (arith, high, length-map (enumerate_from 0 n.sections) (made_carried w n), length-enumerate_from 0 n.sections) in
        ap (λ cs. option_and_then (field_in (word_of w) (target_in (word_of w) (made_tables w n)) k at) (slice_get cs k)) carried
        ∙ ap (option_and_then (field_in (word_of w) (target_in (word_of w) (made_tables w n)) k at)) (slice_get_past (map (made_carried w n) (enumerate_from 0 n.sections)) k past)
