-- The numbers of relocation entries fit their bits, and so all numbers of a file of fewer than 2^32 bytes with fewer than 2^24 symbols.
use Rattle.std.proofs.Common.{◌≡◌, ℕ, zero, suc, ◌+◌, ◌^◌, ◌<◌, ◌≤◌, inl, inr, Bool, true, false, cond, List, [], ◌∷◌, ◌++◌, length, Option, Some, None, refl, sym, ◌∙◌, ap, subst, arith, length-append}
use Rattle.std.specs.{Prelude.{slice_get, flat_map}, Option.{option_map_or}}
use Rattle.std.proofs.lemmas.{Bool.{true≢false}, Option.{none-some, same_Some}}
use Rattle.oc_base.specs.{declared.format.Word.{Word}, declared.format.Word.TheVariants.{W32, W64}}
use Rattle.oc_chains.specs.Lists.{list_of}
use Rattle.oc_linking.specs.declared.terms.Width.{Width}
use Rattle.oc_neutral.specs.{declared.reloc.Reloc.{Reloc}, declared.reloc.Target.{Target}, Invariants.{IsThere}, Mach.Relocs.{MachRow, length_of}}
use Rattle.oc_neutral.specs.{Normal.{Place}, Objects.{Object, reloc_at}, Rows.{TakesPlace, same_taken}}
use Rattle.oc_neutral.specs.declared.reloc.Target.TheVariants as target
use Rattle.oc_shelf.specs.Writing.Parts.{laid_end, behind, place_where}
use Rattle.oc_shelf.proofs.{WritingLaws.MemberLemmas.{of_append, of_map}, WritingLaws.PackedLemmas.{Fit}}
use Rattle.oc_macho.specs.{declared.relocation_info.RelocationInfo.{RelocationInfo}, MachHeader.{mach_format}}
use Rattle.oc_macho_file.specs.Addresses.{is_at, mapped, section_begin, size_of, address_of, memory_end}
use Rattle.oc_macho_file.specs.Bodies.{WrittenReloc, end_place, end_section_address, reference_to, plain_entry, scattered_entry, taken_section}
use Rattle.oc_macho_file.specs.Layout.{relocs_of}
use Rattle.oc_macho_file.specs.Lines.{Line, lines_of, inner_lines, defined_lines, undefined_lines, line_size, numbered_lines, is_own_line, is_symbol_line}
use Rattle.oc_macho_file.specs.Canonical.{dysymtab_numbers, mach_file}
use Rattle.oc_macho_file.proofs.{StructureLaws.{FitsInfo}, TableLaws.{IsCodable}, CodedLaws.{IsForMach, size_low, stored_all}, ItemLaws.{written_entries}}
use Rattle.oc_macho_file.proofs.RowLaws.{IsKnown, KnownAlone, KnownPair, IsPairRow}
use Rattle.oc_macho_file.proofs.EntryLaws.{written_pair, written_by, written_standing, written_field, mach_reloc, meets, entry, known, row_is, standing, written_is, has_size, field_there, written_all, entries_are}
use Rattle.oc_macho_file.proofs.{PinLaws.{IsTakenSection, Another, Own, taken_is}, AddressLaws.{ordered, section_rises, laid_inside, memory_low}}
use Rattle.oc_macho_file.proofs.{SymbolFits.{lines_fit}, HeaderFits.{where_low, name_low, head_fits, segment_fits, symtab_fits, headers_fit}}
use Rattle.oc_neutral.proofs.Adding.{wide_enough}

-- what stands in a list of lists stands in one of them
of_flat : {X Y : Type 0} (f : X → List Y) (xs : List X) (j : ℕ) (y : Y) → slice_get (flat_map f xs) j ≡ Some y → (i : ℕ) × (x : X) × (slice_get xs i ≡ Some x) × (q : ℕ) × (slice_get (f x) q ≡ Some y)
of_flat f [] j y here = absurd (none-some y here)
of_flat f (x ∷ xs) j y here = elim (of_append (f x) (flat_map f xs) j y here) [
  | inl g ↦ (0, x, refl, j, g)
  | inr r ↦ let m = of_flat f xs r.0 y r.2 in (suc m.0, m.1, m.2, m.3, m.4)
]

ones_end : (p : ℕ) (xs : List Line) → laid_end behind line_size p xs ≡ p + length xs
ones_end p [] = omega arith
ones_end p (x ∷ xs) = let rest = ones_end (p + 1) xs in omega (arith, rest)

length_low : (v : Width) → length_of v < 4
length_low v = grind arith

flag_low : (b : Bool) → cond b 1 0 < 2
flag_low b = grind arith

module _ (w : Word) (n : Object) (is : IsForMach w n) (small : length (mach_file w n) < 2 ^ 32) (few : length (lines_of w n) < 2 ^ 24) where
  -- ... numbers and addresses

  number_low : (test : Line → Bool) → place_where test (numbered_lines w n) < 2 ^ 24
  number_low test =
      let all = where_low test (numbered_lines w n) (length (lines_of w n)) (λ k l h.
      let inside = laid_inside behind line_size 0 (lines_of w n) (λ p x. omega arith) k l h in
      let end = ones_end 0 (lines_of w n) in
      omega (arith, inside, end)) in
      omega (arith, all, few)

  address_any : (k : ℕ) → address_of n k < 2 ^ 32
  unfolding address_of
  address_any k =
      let all = where_low (is_at k) (mapped n) (memory_end n) (λ j l h. let inside = laid_inside section_begin size_of 0 (ordered n) section_rises j l h in omega (arith, inside)) in
      let end = memory_low w n is in
      omega (arith, all, end)

  end_low : (u : Target) → end_section_address n u < 2 ^ 32
  end_low u = by (end_place n u)
    where
      by : (o : Option Place) → option_map_or (λ (place : Place). address_of n place.0) o 0 < 2 ^ 32
      by None = omega arith
      by (Some place) = address_any place.0

  -- ... the entries of a relocation

  module _ (k : ℕ) (at : ℕ) (r : Reloc) (there : reloc_at n k at ≡ Some r) where
    abbrev x : WrittenReloc
    x = standing w n is k at r there

    abbrev e : MachRow
    e = entry w n is k at r there

    at_low : at < 2 ^ 31
    at_low =
        let m = meets w n is k at r there in
        let l = m.inside in
        let long = has_size w n is k at r there m.section m.there in
        let size = size_low w n is k m.section m.there in
        let some = wide_enough r.form.width in
        omega (arith, l, long, size, some)

    type_low : x.row.number < 16
    type_low = (mach_reloc w n is k at r there).number

    plain_fits : (type : ℕ) → type < 16 → (v : Word) (u : Target) → r.target ≡ u → FitsInfo (plain_entry x type (reference_to v (numbered_lines w n) u))
    plain_fits type t W32 (target.Section j) to =
        let there = (meets w n is k at r there).normal.target in
        let s = subst (IsThere n) to there in
        let low : j < length n.sections = s in
        let few = is.meets.few in
        (record { low = omega (arith, low, few); flag = flag_low (same_taken x.row.taken TakesPlace); few = length_low x.row.width; small = t }, at_low)
    plain_fits type t W64 (target.Section j) to = (record { low = number_low (is_own_line j); flag = flag_low (same_taken x.row.taken TakesPlace); few = length_low x.row.width; small = t }, at_low)
    plain_fits type t W32 (target.Symbol j) to = (record { low = number_low (is_symbol_line j); flag = flag_low (same_taken x.row.taken TakesPlace); few = length_low x.row.width; small = t }, at_low)
    plain_fits type t W64 (target.Symbol j) to = (record { low = number_low (is_symbol_line j); flag = flag_low (same_taken x.row.taken TakesPlace); few = length_low x.row.width; small = t }, at_low)

    scattered_fits : (offset type address : ℕ) → offset < 2 ^ 24 → type < 16 → address < 2 ^ 32 → FitsInfo (scattered_entry offset type address)
    scattered_fits offset type address a b c = (record { low = a; flag = omega arith; few = omega arith; small = b }, c)

    alone_fits : (q : ℕ) (y : RelocationInfo) → slice_get (written_entries (written_by w n (numbered_lines w n) x None)) q ≡ Some y → FitsInfo y
    alone_fits zero y here = subst FitsInfo (same_Some _ y here) (plain_fits x.row.number type_low w r.target refl)
    alone_fits (suc q) y here = absurd (none-some y here)

    near : w ≡ W32 → IsTakenSection w n is k at r there → at < 2 ^ 24
    near short (Own long l far own) = absurd (true≢false (ap is_short (sym short ∙ long)))
      where
        is_short : Word → Bool
        is_short W32 = true
        is_short W64 = false
    near short (Another j l own) = ((mach_reloc w n is k at r there).difference j (ap mach_format short) l).near

    pair_fits : (v : Word) → w ≡ v → IsTakenSection w n is k at r there → (second : ℕ) → second < 16 → (q : ℕ) (y : RelocationInfo) → slice_get (written_entries (written_pair v n (numbered_lines w n) x second)) q ≡ Some y → FitsInfo y
    pair_fits W32 short t second low zero y here = subst FitsInfo (same_Some _ y here) (scattered_fits at x.row.number (end_section_address n r.target) (near short t) type_low (end_low r.target))
    pair_fits W32 short t second low (suc zero) y here = subst FitsInfo (same_Some _ y here) (scattered_fits 0 second (address_of n (taken_section x)) (omega arith) low (address_any (taken_section x)))
    pair_fits W32 short t second low (suc (suc q)) y here = absurd (none-some y here)
    pair_fits W64 long t second low zero y here =
        subst FitsInfo (same_Some _ y here) (record { low = number_low (is_own_line (taken_section x)); flag = flag_low (same_taken x.row.taken TakesPlace); few = length_low x.row.width; small = type_low }, at_low)
    pair_fits W64 long t second low (suc zero) y here = subst FitsInfo (same_Some _ y here) (plain_fits second low W64 r.target refl)
    pair_fits W64 long t second low (suc (suc q)) y here = absurd (none-some y here)

    second_low : (v : Word) → IsPairRow v e → (second : ℕ) × (x.row.second ≡ Some second) × (second < 16)
    second_low W32 p = (1, sym (row_is w n is k at r there (λ y. y.second)) ∙ p.0, omega arith)
    second_low W64 p = (0, sym (row_is w n is k at r there (λ y. y.second)) ∙ p.0, omega arith)

    own_fits : IsKnown w e → (q : ℕ) (y : RelocationInfo) → slice_get (written_entries (written_standing w n (numbered_lines w n) x)) q ≡ Some y → FitsInfo y
    own_fits (KnownAlone none alone lacks) q y here =
        let second : x.row.second ≡ None = sym (row_is w n is k at r there (λ y. y.second)) ∙ none in
        alone_fits q y (sym (ap (λ o. slice_get (written_entries (written_by w n (numbered_lines w n) x o)) q) second) ∙ here)
    own_fits (KnownPair p taken d) q y here =
        let s = second_low w p in
        pair_fits w refl (taken_is w n is k at r there taken d) s.0 s.2 q y (sym (ap (λ o. slice_get (written_entries (written_by w n (numbered_lines w n) x o)) q) s.1) ∙ here)

  relocs_fit : (k j : ℕ) (y : RelocationInfo) → slice_get (relocs_of w n k) j ≡ Some y → FitsInfo y
  relocs_fit k j y here =
      let f = of_flat written_entries (written_all w n is (numbered_lines w n) k) j y (ap (λ es. slice_get es j) (sym (entries_are w n is (numbered_lines w n) k)) ∙ here) in
      let m = of_map (written_field w n (numbered_lines w n) k) (list_of n.relocs k) f.0 f.1 f.2 in
      let there = field_there w n is (numbered_lines w n) k f.0 m.0 m.1 in
      let same : f.1 ≡ written_standing w n (numbered_lines w n) (standing w n is k m.0.at m.0.item there) = sym m.2 ∙ written_is w n is k m.0.at m.0.item there (numbered_lines w n) in
      own_fits k m.0.at m.0.item there (known w n is k m.0.at m.0.item there).known f.3 y (ap (λ z. slice_get (written_entries z) f.3) (sym same) ∙ f.4)

  dysymtab_fits : Fit (dysymtab_numbers w n)
  unfolding dysymtab_numbers lines_of
  dysymtab_fits =
      let a = length-append (inner_lines w n) (defined_lines n ++ undefined_lines n) in
      let b = length-append (defined_lines n) (undefined_lines n) in (
        omega arith,
        (
          omega arith,
          (
            omega arith,
            (
              omega (arith, a, b, few),
              (
                omega (arith, a, b, few),
                (
                  omega (arith, a, b, few),
                  (
                    omega (arith, a, b, few),
                    (
                      omega (arith, a, b, few),
                      (
                        omega arith,
                        (omega arith, (omega arith, (omega arith, (omega arith, (omega arith, (omega arith, (omega arith, (omega arith, (omega arith, (omega arith, (omega arith, tt))))))))))),
                      ),
                    ),
                  ),
                ),
              ),
            ),
          ),
        ),
      )

  pub has_numbers : IsCodable w n
  has_numbers = record {
    head = head_fits w n is small;
    segment = segment_fits w n is small;
    symtab = symtab_fits w n is small few;
    dysymtab = dysymtab_fits;
    headers = headers_fit w n is small;
    lines = lines_fit w n is (name_low w n is small);
    relocs = relocs_fit;
    stored = stored_all w n is;
  }
