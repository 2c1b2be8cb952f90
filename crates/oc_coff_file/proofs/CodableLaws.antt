-- The numbers in the structures of a canonical file fit their widths.
use Rattle.std.proofs.Common.{◌≡◌, ℕ, zero, suc, ◌+◌, ◌*◌, ◌^◌, ◌<◌, ◌≤◌, Bool, true, false, cond, eqb, List, [], ◌∷◌, length, map, Option, Some, None, refl, sym, ap, subst, arith, inl, inr}
use Rattle.std.specs.{Prelude.{slice_get, min, flat_map}, Option.{option_map_or}}
use Rattle.std.proofs.lemmas.{Bool.{cases_lt}, Option.{same_Some, slice_get_within}}
use Rattle.oc_base.specs.declared.format.Word.{Word}
use Rattle.oc_coff.specs.{declared.form.CoffForm.{CoffForm}, declared.form.Shape.{Shape}, Forms.{shape_of, word_of}, FileHeader.{file_header_numbers}}
use Rattle.oc_coff.specs.{SectionAux.{section_aux_numbers}, declared.relocation.Relocation.{Relocation}, Relocation.{relocation_bytes}}
use Rattle.oc_coff.specs.Flags.{is_crowded, count_entry, with_count, pointer_to, machine_of, version_of}
use Rattle.oc_coff.specs.Values.{numbers_of, numbers_by, default_numbers, type_by, class_by, aux_by}
use Rattle.oc_base.proofs.NumberLaws.{length-table}
use Rattle.oc_linking.specs.{declared.terms.Mark.{Mark}, declared.terms.Mark.TheVariants.{Object as ObjectMark}, declared.terms.Value.{Value}}
use Rattle.oc_linking.specs.{declared.terms.Fallback.{Fallback}, declared.terms.Binding.{Binding}}
use Rattle.oc_linking.specs.{declared.terms.Binding.TheVariants.{Local, Global, Undefined, Common, Weak}, Parts.{is_local}}
use Rattle.oc_chains.specs.Lists.{list_of}
use Rattle.oc_neutral.specs.{declared.section.Section.{Section}, declared.reloc.Reloc.{Reloc}, declared.reloc.Target.{Target}, Objects.{Object, reloc_at}}
use Rattle.oc_neutral.specs.{Coff.Strings.{has_default}, Building.{is_zero}, Invariants.{IsThere}}
use Rattle.oc_shows.specs.SymbolLines.{is_weak_with}
use Rattle.oc_neutral.proofs.{Positions.{there_at}, Adding.{wide_enough}}
use Rattle.oc_shelf.specs.Writing.Parts.{place_where}
use Rattle.oc_shelf.proofs.{WritingLaws.PackedLemmas.{Fit}, WritingLaws.PartLemmas.{IsFound, laid_within}, WritingLaws.StandingLemmas.{stands_inside}}
use Rattle.oc_shelf.proofs.WritingLaws.MemberLemmas.{of_map}
use Rattle.oc_coff_file.specs.Lines.{Line, SectionLine, LocalLine, DefaultLine, OuterLine, lines_of, line_size, numbered_lines, is_section_line, is_default_line, is_outer_line}
use Rattle.oc_coff_file.specs.{Bodies.{raw_of, target_number, relocation_of, relocs_of}, Layout.{laid_parts, is_raw, is_relocs, StringTable, text_of}}
use Rattle.oc_coff_file.specs.Canonical.{leads, leader_number, header_at, line_entry, section_aux, tag_of, weak_aux, file_header, string_table, coff_file, part_bytes}
use Rattle.oc_coff_file.proofs.StructureLaws.{section_header_numbers, relocation_numbers, length-relocation_bytes, FitSymbol, IsNumber, low_number, absolute_number, low_other, fit_symbol, fit_section_aux, fit_weak_aux, fit_file_header, IsOther}
use Rattle.oc_coff_file.proofs.{PartLaws.{stands_raw, stands_relocs, table_place_is, length-coff_file, part_sized}, TableLaws.{IsCodable}}
use Rattle.oc_coff_file.proofs.{EntryLaws.{IsEntered}, LineLaws.{section_found, default_found, outer_found, line_is_of, IsLineOf}}
use Rattle.oc_coff_file.proofs.CodedLaws.{IsForCoff, IsCodedValue, IsCodedFallback, IsCodedBinding, coded_section, coded_line, outer_coded, IsCodedLine, fewest, number_room, other_room, counted_room}
use Rattle.oc_coff_file.proofs.{SectionLaws.{flags_say}, GroupLaws.{leader_of}, FieldLaws.{coff_reloc, meets, type_is, has_bytes}, SymbolLaws.{AreTagged}}
use Rattle.oc_coff_file.proofs.SizeLaws.{small_file, few_entries}
use Rattle.oc_linking.specs.declared.terms.Value.TheVariants as value
use Rattle.oc_linking.specs.declared.terms.Fallback.TheVariants as fallback
use Rattle.oc_chains.specs.declared.field.Field as chains
use Rattle.oc_neutral.specs.declared.reloc.Target.TheVariants as target
use Rattle.oc_shows.proofs.FoundLaws.{empty_past, found_in}

-- all numbers of a canonical file fit
pub record HasNumbers (w : CoffForm) (n : Object) : Type 0 where
  pub codable : IsCodable w n
  pub entered : IsEntered w n
  pub small : length (string_table w n) < 2 ^ 32
  pub tags : AreTagged w n
  pub auxes : (k : ℕ) (s : Section) → slice_get n.sections k ≡ Some s → Fit (section_aux_numbers (shape_of w) (section_aux w n k s))

length-string_table : (w : CoffForm) (n : Object) → length (string_table w n) ≡ 4 + length (text_of w n)
unfolding part_bytes
length-string_table w n = part_sized w n StringTable

pointer_low : (place size : ℕ) → pointer_to place size ≤ place
pointer_low place size = by (eqb size 0)
  where
    by : (b : Bool) → cond b 0 place ≤ place
    by b = grind arith

module _ (w : CoffForm) (n : Object) (is : IsForCoff w n) where
  abbrev relocs : ℕ → List Relocation
  relocs k = relocs_of w (numbered_lines w n) n k

  -- ... numbers of entries

  -- what is found in the table has a number below the count
  found_low : (test : Line → Bool) (x : Line) → IsFound (numbered_lines w n) test x → place_where test (numbered_lines w n) < 2 ^ 32
  found_low test x f =
      let low = laid_within line_size 0 (lines_of w n) f.index f.one f.here in
      let entries = few_entries w n is in
      let few = fewest w n is in
      let symbols = is.meets.bounds.symbols in
      let place = f.place in
      omega (arith, low, entries, few, symbols, place)

  target_low : (k at : ℕ) (r : Reloc) → reloc_at n k at ≡ Some r → target_number (numbered_lines w n) r.target < 2 ^ 32
  target_low k at r there = by r.target refl
    where
      by : (t : Target) → r.target ≡ t → target_number (numbered_lines w n) t < 2 ^ 32
      by (target.Section j) e =
          let s = there_at n.sections j (subst (λ t. IsThere n t) e (meets w n is k at r there).normal.target) in
          found_low (is_section_line j) (SectionLine j s.0) (section_found w n j s.0 s.1)
      by (target.Symbol j) e =
          let t = there_at n.symbols j (subst (λ t. IsThere n t) e (meets w n is k at r there).normal.target) in
          found_low (is_outer_line j) (OuterLine j t.0) (outer_found w n is.format j t.0 t.1 ((meets w n is k at r there).outer j t.0 e t.1))

  -- ... values and places

  offset_low : (k : ℕ) (s : Section) (offset : ℕ) → slice_get n.sections k ≡ Some s → offset ≤ s.size → (offset < 2 ^ 32) × (k + 1 < 2 ^ 32)
  offset_low k s offset here le =
      let low : k < length n.sections = slice_get_within n.sections k s here in
      let few = fewest w n is in
      let size = (coded_section w n is k s here).size in
      (omega (arith, le, size), omega (arith, low, few))

  abbrev AreLow : ℕ × ℕ → Type 0
  AreLow numbers = (numbers.0 < 2 ^ 32) × IsNumber (shape_of w) numbers.1

  place_low : (k : ℕ) (s : Section) (offset : ℕ) → slice_get n.sections k ≡ Some s → offset ≤ s.size → AreLow (offset, k + 1)
  place_low k s offset here le = ((offset_low k s offset here le).0, number_room w n is k (slice_get_within n.sections k s here))

  no_number : IsNumber (shape_of w) 0
  no_number = low_number (shape_of w) 0 (omega arith)

  value_low : (v : Value) → IsCodedValue n v → AreLow (numbers_of v)
  value_low (value.Place k offset) c = place_low k c.0 offset c.1 c.2
  value_low (value.Absolute x) c = (c, absolute_number (shape_of w))

  binding_low : (b : Binding) → IsCodedBinding n b → AreLow (numbers_by b)
  binding_low (Local v) c = value_low v c
  binding_low (Global v) c = value_low v c
  binding_low Undefined c = (omega arith, no_number)
  binding_low (Common size align) c = (c.1, no_number)
  binding_low (Weak f) c = (omega arith, no_number)

  default_low : (b : Binding) → IsCodedBinding n b → AreLow (default_numbers b)
  default_low (Local v) c = (omega arith, no_number)
  default_low (Global v) c = (omega arith, no_number)
  default_low Undefined c = (omega arith, no_number)
  default_low (Common size align) c = (omega arith, no_number)
  default_low (Weak (fallback.Place k offset)) c = place_low k c.0 offset c.1 c.2
  default_low (Weak fallback.Zero) c = (omega arith, absolute_number (shape_of w))
  default_low (Weak (fallback.Name j)) c = (omega arith, no_number)

  type_low : (m : Mark) → type_by m < 2 ^ 16
  type_low m = grind arith

  class_low : (b : Binding) → class_by b < 2 ^ 8
  class_low b = grind arith

  aux_low : (b : Binding) → aux_by b < 2 ^ 8
  aux_low b = grind arith

  -- ... entries

  entered : IsEntered w n
  entered = record { lines = λ i line here. by line (coded_line w n is i line here) (line_is_of w n i line here) }
    where
      by : (line : Line) → IsCodedLine w n line → IsLineOf w n line → FitSymbol (shape_of w) (line_entry w n line)
      by (SectionLine k s) c o =
          let l = place_low k s 0 o (omega arith) in
          fit_symbol (shape_of w) (line_entry w n (SectionLine k s)) l.0 l.1 (omega arith) (omega arith) (omega arith)
      by (LocalLine k s) c o =
          let l = binding_low s.binding c.binding in
          fit_symbol (shape_of w) (line_entry w n (LocalLine k s)) l.0 l.1 (type_low s.mark) (omega arith) (omega arith)
      by (DefaultLine k s) c o =
          let l = default_low s.binding c.0.binding in
          fit_symbol (shape_of w) (line_entry w n (DefaultLine k s)) l.0 l.1 (omega arith) (omega arith) (omega arith)
      by (OuterLine k s) c o =
          let l = binding_low s.binding c.binding in
          fit_symbol (shape_of w) (line_entry w n (OuterLine k s)) l.0 l.1 (type_low s.mark) (class_low s.binding) (aux_low s.binding)

  -- the number of a symbol that a fallback tags
  tags : AreTagged w n
  tags k s f here own = fit_weak_aux (shape_of w) (weak_aux (numbered_lines w n) k f) (by f own (outer_coded w n is k s here (ap is_local own)).binding) (omega arith)
    where
      by : (f : Fallback) → s.binding ≡ Weak f → IsCodedBinding n s.binding → tag_of (numbered_lines w n) k f < 2 ^ 32
      by (fallback.Place j offset) e c = found_low (is_default_line k) (DefaultLine k s) (default_found w n k s here (ap (is_weak_with has_default) e))
      by fallback.Zero e c = found_low (is_default_line k) (DefaultLine k s) (default_found w n k s here (ap (is_weak_with has_default) e))
      by (fallback.Name j) e c =
          let t : IsCodedFallback n (fallback.Name j) = subst (IsCodedBinding n) e c in
          found_low (is_outer_line j) (OuterLine j t.0) (outer_found w n is.format j t.0 t.1 t.2)

  -- what a section's own symbol says of it
  capped : (m : ℕ) → min m 0xFFFF < 2 ^ 16
  capped m = omega arith

  auxes : (k : ℕ) (s : Section) → slice_get n.sections k ≡ Some s → Fit (section_aux_numbers (shape_of w) (section_aux w n k s))
  auxes k s here =
      let size = (coded_section w n is k s here).size in
      let count = capped (length (relocs k)) in
      let kept = kept_low s.group refl (leads n k) refl in
      let selection = selected s.group (leads n k) in
      fit_section_aux (shape_of w) (section_aux w n k s) (omega (arith, size)) count (omega arith) (omega arith) kept selection
    where
      kept_low : (o : Option ℕ) → s.group ≡ o → (b : Bool) → leads n k ≡ b → IsOther (shape_of w) (option_map_or (λ g. cond b 0 (leader_number n g)) o 0)
      kept_low None e b lead = low_other (shape_of w) 0 (omega arith)
      kept_low (Some g) e true lead = low_other (shape_of w) 0 (omega arith)
      kept_low (Some g) e false lead =
          let x = leader_of n g ((is.meets.sections k s here).led g e) in
          subst (IsOther (shape_of w)) (sym x.number) (other_room w n is x.position (slice_get_within n.sections x.position x.section x.here))

      selected : (o : Option ℕ) (b : Bool) → option_map_or (λ g. cond b 2 5) o 0 < 2 ^ 8
      selected o b = grind arith

  -- ... relocations

  reloc_fits : (k j : ℕ) (r : Relocation) → slice_get (relocs k) j ≡ Some r → Fit (relocation_numbers r)
  unfolding relocs_of
  reloc_fits k j r here =
      let x = of_map (relocation_of w (numbered_lines w n)) (list_of n.relocs k) j r here in
      let there : reloc_at n k x.0.at ≡ Some x.0.item = (found_in 0 (list_of n.relocs k) (is.object.built.fields.apart k) j x.0 x.1).1 in
      let low = inside_low k x.0.at x.0.item there in
      let number = target_low k x.0.at x.0.item there in
      let type = type_is w n is k x.0.at x.0.item there in
      let small = (coff_reloc w n is k x.0.at x.0.item there).number.1 in
      subst (λ (q : Relocation). Fit (relocation_numbers q)) x.2 (omega (arith, low), (omega (arith, number), (omega (arith, type, small), tt)))
    where
      inside_low : (k at : ℕ) (r : Reloc) → reloc_at n k at ≡ Some r → at < 2 ^ 32
      inside_low k at r there =
          let m = meets w n is k at r there in
          let l = m.inside in
          let b = (has_bytes w n is k m.section m.there at r there).1 in
          let size = (coded_section w n is k m.section m.there).size in
          let wide = wide_enough r.form.width in
          omega (arith, l, b, size, wide)

  few_of : (k : ℕ) → length (relocs k) + 1 < 2 ^ 32
  unfolding relocs_of
  few_of k = elim (cases_lt k (length n.sections)) [
    | inl low ↦ let s = there_at n.sections k low in of_section s.0 s.1
    | inr high ↦
        let counted = is.object.built.fields.counted in
        let none : list_of n.relocs k ≡ [] = empty_past n.relocs k (omega (arith, high, counted)) in
        let long : length (relocs_of w (numbered_lines w n) n k) ≡ 0 = ap (λ (xs : List (chains.Field Reloc)). length (map (relocation_of w (numbered_lines w n)) xs)) none in
        omega (arith, long)
  ]
    where
      counted : (rs : List Relocation) (b : Bool) → length rs ≤ length (cond b (count_entry rs ∷ rs) rs)
      counted rs b = grind arith

      of_section : (s : Section) → slice_get n.sections k ≡ Some s → length (relocs_of w (numbered_lines w n) n k) + 1 < 2 ^ 32
      of_section s here =
          let rs : List Relocation = relocs_of w (numbered_lines w n) n k in
          let small = small_file w n is in
          let inside = stands_inside (coff_file w n) (flat_map relocation_bytes (with_count rs)) (place_where (is_relocs k) (laid_parts w n)) (stands_relocs w n k s here) in
          let size : length (flat_map relocation_bytes (with_count rs)) ≡ 10 * length (with_count rs) = length-table relocation_bytes 10 (with_count rs) length-relocation_bytes in
          let most = counted rs (is_crowded rs) in
          omega (arith, small, inside, size, most)

  all_fit : (k j : ℕ) (r : Relocation) → slice_get (with_count (relocs k)) j ≡ Some r → Fit (relocation_numbers r)
  all_fit k j r here = by (is_crowded (relocs k)) j here
    where
      by : (b : Bool) (j : ℕ) → slice_get (cond b (count_entry (relocs_of w (numbered_lines w n) n k) ∷ relocs_of w (numbered_lines w n) n k) (relocs_of w (numbered_lines w n) n k)) j ≡ Some r → Fit (relocation_numbers r)
      by true zero h = let few = few_of k in subst (λ (q : Relocation). Fit (relocation_numbers q)) (same_Some (count_entry (relocs_of w (numbered_lines w n) n k)) r h) (few, (omega arith, (omega arith, tt)))
      by true (suc j) h = reloc_fits k j r h
      by false j h = reloc_fits k j r h

  -- ... headers

  header_fits : (k : ℕ) (s : Section) → slice_get n.sections k ≡ Some s → Fit (section_header_numbers (header_at w n (k, s)))
  unfolding header_at
  header_fits k s here =
      let small = small_file w n is in
      let size = (coded_section w n is k s here).size in
      let raw = stands_inside (coff_file w n) (raw_of w n k s) (place_where (is_raw k) (laid_parts w n)) (stands_raw w n k s here) in
      let table = stands_inside (coff_file w n) (flat_map relocation_bytes (with_count (relocs k))) (place_where (is_relocs k) (laid_parts w n)) (stands_relocs w n k s here) in
      let a = pointer_low (place_where (is_raw k) (laid_parts w n)) (length s.bytes) in
      let b = pointer_low (place_where (is_relocs k) (laid_parts w n)) (length (relocs k)) in
      let count = capped (length (relocs k)) in
      let flags = (flags_say w n s (relocs k) (coded_section w n is k s here)).small in
      (omega arith, (omega arith, (omega (arith, size), (omega (arith, small, raw, a), (omega (arith, small, table, b), (omega arith, (omega (arith, count), (omega arith, (omega (arith, flags), tt)))))))))

  machine_low : (w : Word) → machine_of w < 2 ^ 16
  machine_low w = grind arith

  version_low : (z : Shape) → version_of z < 2 ^ 16
  version_low z = grind arith

  head_fits : Fit (file_header_numbers (shape_of w) (file_header w n))
  unfolding file_header
  head_fits =
      let few = fewest w n is in
      let long = length-coff_file w n in
      let small = small_file w n is in
      let place = table_place_is w n in
      let entries = few_entries w n is in
      let symbols = is.meets.bounds.symbols in
      fit_file_header (shape_of w) (file_header w n) (machine_low (word_of w)) (counted_room w n is) (omega arith) (omega (arith, place, long, small)) (omega (arith, entries, few, symbols)) (omega arith) (omega arith)
      (version_low (shape_of w))

  sized : (k : ℕ) (s : Section) → slice_get n.sections k ≡ Some s → 0 < length s.bytes → s.size ≡ length s.bytes
  sized k s here many = by (is_zero s.kind) (coded_section w n is k s here).bytes
    where
      by : (b : Bool) → length s.bytes ≡ cond b 0 s.size → s.size ≡ length s.bytes
      by b e = grind arith

  pub has_numbers : HasNumbers w n
  unfolding text_of
  has_numbers = record {
    codable = record {
      small = small_file w n is;
      head = head_fits;
      headers = header_fits;
      relocs = all_fit;
      sizes = sized;
      crowded = λ k s here. (flags_say w n s (relocs k) (coded_section w n is k s here)).overflow;
    };
    entered = entered;
    small =
        let long = length-coff_file w n in
        let small = small_file w n is in
        omega (arith, long, small, length-string_table w n);
    tags = tags;
    auxes = auxes;
  }
