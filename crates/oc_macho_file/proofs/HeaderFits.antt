-- The numbers of headers and load commands fit their widths, in a file of fewer than 2^32 bytes.
use Rattle.std.proofs.Common.{◌≡◌, ℕ, ◌+◌, ◌*◌, ◌^◌, ◌<◌, ◌≤◌, Bool, true, false, cond, eqb, List, [], ◌∷◌, ◌++◌, length, replicate, Some, None, refl, ap, arith, length-append, suc, ◌-◌}
use Rattle.std.specs.{Prelude.{slice_get, flat_map}, List.{find}, Option.{unwrap_or, option_map_or}}
use Rattle.oc_base.specs.{Strings.{is_given, table_text, table_place, place_from, tops_of}, declared.format.Word.{Word}}
use Rattle.oc_base.specs.declared.format.Word.TheVariants.{W32, W64}
use Rattle.oc_base.proofs.NumberLaws.{length-table}
use Rattle.oc_neutral.specs.{declared.section.Section.{Section}, Objects.{Object}}
use Rattle.oc_shelf.specs.Writing.Parts.{Laid, laid_end, aligned}
use Rattle.oc_shelf.proofs.{WritingLaws.PackedLemmas.{Fit}, WritingLaws.StandingLemmas.{stands_inside}, WritingLaws.StringLemmas.{name_in_table}}
use Rattle.oc_macho.specs.{MachHeader.{address_size}, Structures.{mach_header_numbers, section_numbers, symtab_numbers, relocation_bytes}}
use Rattle.oc_macho_file.specs.Addresses.{Numbered, stored_sections, blank_sections, section_begin, size_of, address_of, memory_end, stored_end}
use Rattle.oc_macho_file.specs.Lines.{lines_of}
use Rattle.oc_macho_file.specs.Layout.{Part, parts_of, part_begin, part_size, laid_parts, part_where, is_raw, is_relocs, is_symbol_table, is_string_table, relocs_of, line_names, offset_in, strings_of, string_table}
use Rattle.oc_macho_file.specs.{Symbols.{exponent_of}, Canonical.{file_header, segment_numbers, section_header, pointer_to, symtab_command, mach_file}}
use Rattle.oc_macho_file.proofs.{StructureLaws.{length-relocation_bytes}, PartLaws.{rises, length-mach_file, stands_relocs, stands_strings}}
use Rattle.oc_macho_file.proofs.{CodedLaws.{IsForMach, meets_section, size_low, exponent_low}, AddressLaws.{laid_inside, memory_low, address_low}}

-- where the first is that passes a test, no later than all begin
pub where_low : {X : Type 0} (test : X → Bool) (ls : List (Laid X)) (end : ℕ) → ((k : ℕ) (l : Laid X) → slice_get ls k ≡ Some l → l.at ≤ end)
    → option_map_or (λ (l : Laid X). l.at) (find (λ (l : Laid X). test l.part) ls) 0 ≤ end
where_low test [] end each = omega arith
where_low {X} test (l ∷ ls) end each = by (test l.part) (each 0 l refl) (where_low test ls end (λ k m h. each (suc k) m h))
  where
    by : (b : Bool) → l.at ≤ end → option_map_or (λ (l : Laid X). l.at) (find (λ (l : Laid X). test l.part) ls) 0 ≤ end
        → option_map_or (λ (l : Laid X). l.at) (cond b (Some l) (find (λ (l : Laid X). test l.part) ls)) 0 ≤ end
    by true own rest = own
    by false own rest = rest

end_rises : (p : ℕ) (xs : List Numbered) → p ≤ laid_end section_begin size_of p xs
end_rises p [] = omega arith
end_rises p (x ∷ xs) = let rest = end_rises (section_begin p x + size_of x) xs in omega (arith, rest)

end_first : (p : ℕ) (xs ys : List Numbered) → laid_end section_begin size_of p xs ≤ laid_end section_begin size_of p (xs ++ ys)
end_first p [] ys = end_rises p ys
end_first p (x ∷ xs) ys = end_first (section_begin p x + size_of x) xs ys

module _ (w : Word) (n : Object) (is : IsForMach w n) (small : length (mach_file w n) < 2 ^ 32) where
  place_low : (test : Part → Bool) → part_where w n test < 2 ^ 32
  place_low test =
      let all = where_low test (laid_parts w n) (length (mach_file w n)) (λ k l h.
      let inside = laid_inside (part_begin w n) (part_size w n) 0 (parts_of n) (rises w n) k l h in
      let long = length-mach_file w n in
      omega (arith, inside, long)) in
      omega (arith, all, small)

  strings_low : length (string_table w n) < 2 ^ 32
  strings_low = let inside = stands_inside (mach_file w n) (string_table w n) (part_where w n is_string_table) (stands_strings w n) in omega (arith, inside, small)

  texts_low : length (strings_of (line_names w n)) < 2 ^ 32
  unfolding string_table
  texts_low =
      let names : List ℕ = strings_of (line_names w n) in
      let all = length-append names (replicate (aligned (address_size w) (length names) - length names) 0) in
      let low = strings_low in
      omega (arith, all, low)

  -- an offset in the string table
  pub name_low : (name : List ℕ) → offset_in (line_names w n) name < 2 ^ 32
  unfolding table_place
  name_low name = by (is_given (line_names w n) name) refl
    where
      by : (b : Bool) → is_given (line_names w n) name ≡ b → offset_in (line_names w n) name < 2 ^ 32
      by true g =
          let t = name_in_table 1 (line_names w n) name g in
          let above = t.above in
          let in_table = stands_inside (table_text (line_names w n)) (name ++ 0 ∷ []) (offset_in (line_names w n) name - 1) t.there in
          let long = length-append name (0 ∷ []) in
          let low = texts_low in
          omega (arith, above, in_table, long, low)
      by false g = let e : offset_in (line_names w n) name ≡ 0 = ap (λ b. unwrap_or (cond b (place_from 1 (tops_of (line_names w n)) name) None) 0) g in omega (arith, e)

  pub head_fits : Fit (mach_header_numbers w (file_header w n))
  unfolding file_header
  head_fits = by w (length n.sections) is.meets.few
    where
      by : (v : Word) (m : ℕ) → m ≤ 255 → Fit (mach_header_numbers v (file_header v n))
      by W32 m l = let few = is.meets.few in (omega arith, (omega arith, (omega arith, (omega arith, (omega arith, (omega (arith, few), (omega arith, tt)))))))
      by W64 m l = let few = is.meets.few in (omega arith, (omega arith, (omega arith, (omega arith, (omega arith, (omega (arith, few), (omega arith, (omega arith, tt))))))))

  pub segment_fits : Fit (segment_numbers w n)
  unfolding segment_numbers
  segment_fits =
      let memory = memory_low w n is in
      let stored : stored_end n ≤ memory_end n = end_first 0 (stored_sections n) (blank_sections n) in
      by w memory stored
    where
      by : (v : Word) → memory_end n ≤ 2155839488 → stored_end n ≤ memory_end n → Fit (segment_numbers v n)
      by W32 memory stored =
          let few = is.meets.few in
          (omega arith, (omega (arith, few), (omega arith, (omega arith, (omega (arith, memory), (omega (arith, few), (omega (arith, memory, stored), (omega arith, (omega arith, (omega (arith, few), (omega arith, tt)))))))))))
      by W64 memory stored =
          let few = is.meets.few in
          (omega arith, (omega (arith, few), (omega arith, (omega arith, (omega (arith, memory), (omega (arith, few), (omega (arith, memory, stored), (omega arith, (omega arith, (omega (arith, few), (omega arith, tt)))))))))))

  pub symtab_fits : length (lines_of w n) < 2 ^ 24 → Fit (symtab_numbers (symtab_command w n))
  unfolding symtab_command
  symtab_fits few =
      let symbols = place_low is_symbol_table in
      let strings = place_low is_string_table in
      let size = strings_low in
      (omega arith, (omega arith, (omega (arith, symbols), (omega (arith, few), (omega (arith, strings), (omega (arith, size), tt))))))

  pub headers_fit : (k : ℕ) (s : Section) → slice_get n.sections k ≡ Some s → Fit (section_numbers w (section_header w n (k, s)))
  unfolding section_header
  headers_fit k s here =
      let m = meets_section w n is k s here in
      let size = size_low w n is k s here in
      let at = address_low w n is k s here in
      let end = memory_low w n is in
      let align = exponent_low s.align m.align in
      let raw = place_low (is_raw k) in
      let place = place_low (is_relocs k) in
      let tag = m.small in
      let inside = stands_inside (mach_file w n) (flat_map relocation_bytes (relocs_of w n k)) (part_where w n (is_relocs k)) (stands_relocs w n k s here) in
      let long = length-table relocation_bytes 8 (relocs_of w n k) length-relocation_bytes in
      let count : length (relocs_of w n k) < 2 ^ 32 = counted (part_where w n (is_relocs k)) (length (flat_map relocation_bytes (relocs_of w n k))) (length (relocs_of w n k)) inside long in
      by w size at end align raw (pointer (eqb (length (relocs_of w n k)) 0) place) count tag
    where
      counted : (at a m : ℕ) → at + a ≤ length (mach_file w n) → a ≡ 8 * m → m < 2 ^ 32
      counted at a m inside long = omega (arith, inside, long, small)

      pointer : (b : Bool) {at : ℕ} → at < 2 ^ 32 → cond b 0 at < 2 ^ 32
      pointer b l = grind arith

      by : (v : Word) → s.size ≤ 2147483647 → address_of n k + s.size ≤ memory_end n → memory_end n ≤ 2155839488 → exponent_of s.align ≤ 15 → part_where w n (is_raw k) < 2 ^ 32
          → pointer_to (part_where w n (is_relocs k)) (length (relocs_of w n k)) < 2 ^ 32 → length (relocs_of w n k) < 2 ^ 32 → s.tag < 2 ^ 32 → Fit (section_numbers v (section_header w n (k, s)))
      by W32 size at end align raw place count tag =
          (omega (arith, at, end), (omega (arith, size), (omega (arith, raw), (omega (arith, align), (omega (arith, place), (omega (arith, count), (omega (arith, tag), (omega arith, (omega arith, tt)))))))))
      by W64 size at end align raw place count tag =
          (omega (arith, at, end), (omega (arith, size), (omega (arith, raw), (omega (arith, align), (omega (arith, place), (omega (arith, count), (omega (arith, tag), (omega arith, (omega arith, (omega arith, tt))))))))))
