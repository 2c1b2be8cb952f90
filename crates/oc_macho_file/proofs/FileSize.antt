-- A canonical file has fewer than 2^32 bytes.
use Rattle.std.proofs.Common.{◌≡◌, ℕ, zero, suc, ◌+◌, ◌-◌, ◌*◌, ◌^◌, ◌<◌, ◌≤◌, Bool, not, ◌&&◌, cond, eqb, List, [], ◌∷◌, ◌++◌, length, map, get_or, replicate, Some, refl, ◌∙◌, ap, arith, length-append}
use Rattle.std.specs.{Prelude.{slice_get, flat_map, codes, decimal}, List.{sum_by, enumerate_from, filter, AllByRecursion}}
use Rattle.std.proofs.lemmas.{Fmt.{length-decimal-le}, List.{length-map}, List.FromFn.{length-enumerate_from}, List.Sums.{sum_by-cons, sum_by-append}}
use Rattle.oc_base.specs.{declared.format.Word.{Word}, declared.format.Word.TheVariants.{W32, W64}}
use Rattle.oc_chains.specs.declared.field.Field as chains
use Rattle.oc_chains.specs.Lists.{list_of}
use Rattle.oc_linking.specs.Parts.{is_local}
use Rattle.oc_neutral.specs.{declared.reloc.Reloc.{Reloc}, declared.section.Section.{Section}, declared.symbol.Symbol.{Symbol}, Bindings.{is_zero}}
use Rattle.oc_neutral.specs.{Building.{stored_size, stored_sum}, Dressing.{is_common}, Invariants.{HasItsBytes}, Mach.SectionSymbols.{needed_sections}}
use Rattle.oc_neutral.specs.{Objects.{Object}, WrittenSymbols.{is_written}}
use Rattle.oc_shows.specs.SymbolLines.{is_defined, is_undefined, is_weak_with}
use Rattle.oc_shelf.specs.Writing.Parts.{aligned}
use Rattle.oc_macho.specs.{MachHeader.{address_size}, Nlist.{nlist_size}}
use Rattle.oc_macho_file.specs.Addresses.{Numbered, is_blank, stored_sections}
use Rattle.oc_macho_file.specs.Lines.{Line, OwnLine, LocalLine, OuterLine, lines_of, line_name, lines_where, own_lines, local_lines, inner_lines, defined_lines, undefined_lines, numbered_lines}
use Rattle.oc_macho_file.specs.Layout.{Part, FileHead, SegmentHead, SectionHeads, SymtabHead, DysymtabHead, Raw, Relocs, SymbolTable, StringTable, raw_part, relocs_part, head_parts, table_parts, parts_of, contents_begin, relocs_of, line_names, strings_of, string_table, part_size, part_begin, entries_align}
use Rattle.oc_macho_file.specs.Canonical.{mach_file}
use Rattle.oc_macho_file.proofs.{PartLaws.{IsPartOf, part_is_there, length-mach_file}, CodedLaws.{IsForMach, meets_section, align_some, power_low}}
use Rattle.oc_macho_file.proofs.{NameLaws.{needed_low}, ItemLaws.{Written, Alone, Pair, written_entries}, EntryLaws.{written_field, written_all, entries_are}}
use Rattle.oc_macho_file.proofs.{AddressLaws.{laid_low, gap_low}, CountLaws.{few_lines}}
use Rattle.oc_shelf.proofs.WritingLaws.SizeLemmas.{ended_size, table_size, sum_filter, sum_more, sum_enumerated}
use Rattle.oc_neutral.proofs.LeftObject.{sum_map}

-- ... sums

length_filter : {X : Type 0} (test : X → Bool) (xs : List X) → length (filter test xs) ≤ length xs
length_filter test [] = omega arith
length_filter {X} test (x ∷ xs) = by (test x) (length_filter test xs)
  where
    by : (b : Bool) → length (filter test xs) ≤ length xs → length (cond b (x ∷ filter test xs) (filter test xs)) ≤ length (x ∷ xs)
    by b rest = grind arith

sum_most : {X : Type 0} (size : X → ℕ) (m : ℕ) (xs : List X) → ((i : ℕ) (x : X) → slice_get xs i ≡ Some x → size x ≤ m) → sum_by size xs ≤ m * length xs
sum_most size m [] each = omega arith
sum_most size m (x ∷ xs) each = let a = sum_by-cons size x xs in let c = sum_most size m xs (λ i y h. each (suc i) y h) in let l = each 0 x refl in let d : m * suc (length xs) ≡ m + m * length xs = grind arith in omega (arith, a, c, l, d)

pairs_most : (xs : List Written) → length (flat_map written_entries xs) ≤ 2 * length xs
pairs_most [] = omega arith
pairs_most (Alone e ∷ xs) = let rest = pairs_most xs in omega (arith, rest)
pairs_most (Pair e y ∷ xs) = let rest = pairs_most xs in omega (arith, rest)

zeros_long : (m : ℕ) → length (replicate {A = ℕ} m 0) ≡ m
zeros_long zero = refl
zeros_long (suc m) = ap suc (zeros_long m)

module _ (w : Word) (n : Object) (is : IsForMach w n) where
  -- ... names

  abbrev symbol_text : ℕ
  symbol_text = sum_by (λ (s : Symbol). length s.name) n.symbols

  abbrev size_line : Line → ℕ
  size_line x = ended_size (line_name x)

  where_names : (line : ℕ → Symbol → Line) (test : Symbol → Bool) → ((k : ℕ) (s : Symbol) → line_name (line k s) ≡ s.name) → sum_by size_line (lines_where line test n) ≤ symbol_text + length n.symbols
  where_names line test name =
      let xs : List (ℕ × Symbol) = filter (λ (x : ℕ × Symbol). test x.1) (enumerate_from 0 n.symbols) in
      let a : sum_by size_line (lines_where line test n) ≡ sum_by (λ (x : ℕ × Symbol). length x.1.name + 1) xs
      = sum_map size_line (λ (x : ℕ × Symbol). line x.0 x.1) xs ∙ same xs in
      let b = sum_filter (λ (x : ℕ × Symbol). length x.1.name + 1) (λ (x : ℕ × Symbol). test x.1) (enumerate_from 0 n.symbols) in
      let c = sum_enumerated (λ (s : Symbol). length s.name + 1) 0 n.symbols in
      let d = sum_more (λ (s : Symbol). length s.name) 1 n.symbols in
      omega (arith, a, b, c, d)
    where
      same : (xs : List (ℕ × Symbol)) → sum_by (λ (x : ℕ × Symbol). size_line (line x.0 x.1)) xs ≡ sum_by (λ (x : ℕ × Symbol). length x.1.name + 1) xs
      same [] = refl
      same (x ∷ xs) =
          let a = sum_by-cons (λ (x : ℕ × Symbol). size_line (line x.0 x.1)) x xs in
          let b = sum_by-cons (λ (x : ℕ × Symbol). length x.1.name + 1) x xs in
          let c = same xs in
          let d : size_line (line x.0 x.1) ≡ length x.1.name + 1 = ap ended_size (name x.0 x.1) in
          omega (arith, a, b, c, d)

  own_names : (v : Word) → sum_by size_line (own_lines v n) ≤ 14 * length (own_lines v n)
  own_names W32 = omega arith
  own_names W64 =
      let a = sum_map size_line OwnLine (needed_sections n) in
      let b = sum_most (λ k. size_line (OwnLine k)) 14 (needed_sections n) (λ i k h.
      let low = needed_low n i k h in
      let few = is.meets.few in
      let digits = length-decimal-le 3 (k + 1) (omega arith) (omega (arith, low, few)) (omega (arith, low, few)) in
      let all = length-append (codes "l_section_") (decimal (k + 1)) in
      omega (arith, digits, all)) in
      let c = length-map (needed_sections n) OwnLine in
      omega (arith, a, b, c)

  line_text : sum_by ended_size (line_names w n) ≤ 14 * length (lines_of w n) + 5 * (symbol_text + length n.symbols)
  unfolding lines_of line_names
  line_text =
      let undefined : List Line = lines_where OuterLine (λ s. is_undefined s.binding) n in
      let commons : List Line = lines_where OuterLine (λ s. is_common s.binding) n in
      let weaks : List Line = lines_where OuterLine (λ s. is_weak_with is_zero s.binding) n in
      let a = sum_map ended_size line_name (inner_lines w n ++ (defined_lines n ++ undefined_lines n)) in
      let b = sum_by-append size_line (inner_lines w n) (defined_lines n ++ undefined_lines n) in
      let c = sum_by-append size_line (own_lines w n) (local_lines n) in
      let d = sum_by-append size_line (defined_lines n) (undefined_lines n) in
      let e = sum_by-append size_line undefined (commons ++ weaks) in
      let f = sum_by-append size_line commons weaks in
      let own = own_names w in
      let la = length-append (inner_lines w n) (defined_lines n ++ undefined_lines n) in
      let lb = length-append (own_lines w n) (local_lines n) in
      let g = where_names LocalLine (λ s. is_local s.binding && is_written n.format s) (λ k s. refl) in
      let h = where_names OuterLine (λ s. is_defined s.binding) (λ k s. refl) in
      let i = where_names OuterLine (λ s. is_undefined s.binding) (λ k s. refl) in
      let j = where_names OuterLine (λ s. is_common s.binding) (λ k s. refl) in
      let k = where_names OuterLine (λ s. is_weak_with is_zero s.binding) (λ k s. refl) in
      omega (arith, a, b, c, d, e, f, own, la, lb, g, h, i, j, k)

  unit_low : (v : Word) → (1 ≤ address_size v) × (address_size v ≤ 32768)
  unit_low v = grind arith

  strings_size : length (string_table w n) ≤ 32769 + sum_by ended_size (line_names w n)
  unfolding string_table
  strings_size =
      let text = table_size (line_names w n) in
      let names : List ℕ = strings_of (line_names w n) in
      let all = length-append names (replicate (aligned (address_size w) (length names) - length names) 0) in
      let zeros = zeros_long (aligned (address_size w) (length names) - length names) in
      let u = unit_low w in
      let gap = gap_low (address_size w) (length names) u.0 u.1 in
      omega (arith, text, all, zeros, gap)

  -- ... entries

  entries_most : (k : ℕ) → length (relocs_of w n k) ≤ 2 * length (list_of n.relocs k)
  entries_most k =
      let a = ap length (entries_are w n is (numbered_lines w n) k) in
      let b = pairs_most (written_all w n is (numbered_lines w n) k) in
      let c = length-map (list_of n.relocs k) (written_field w n (numbered_lines w n) k) in
      omega (arith, a, b, c)

  relocs_size : (i : ℕ) (xs : List Section) (ls : List (List (chains.Field Reloc))) → length ls ≡ length xs → ((j : ℕ) → list_of n.relocs (i + j) ≡ get_or ls j [])
      → sum_by (λ (x : Numbered). part_size w n (relocs_part x)) (enumerate_from i xs) ≤ 16 * sum_by length ls
  relocs_size i [] ls e same = omega arith
  relocs_size i (s ∷ xs) [] e same = absurd (omega (arith, e))
  relocs_size i (s ∷ xs) (l ∷ ls) e same =
      let at : i ≡ i + 0 = omega arith in
      let own : length (list_of n.relocs i) ≡ length l = ap length (ap (list_of n.relocs) at ∙ same 0) in
      let most = entries_most i in
      let sum = sum_by-cons length l ls in
      let head = sum_by-cons (λ (x : Numbered). part_size w n (relocs_part x)) (i, s) (enumerate_from (i + 1) xs) in
      let rest = relocs_size (i + 1) xs ls (omega (arith, e)) (λ j. let next : i + 1 + j ≡ i + suc j = omega arith in ap (list_of n.relocs) next ∙ same (suc j)) in
      omega (arith, own, most, sum, head, rest)

  bytes_size : (xs : List Section) → AllByRecursion HasItsBytes xs → sum_by (λ (s : Section). length s.bytes) xs ≡ stored_sum xs
  bytes_size [] bytes = refl
  bytes_size (s ∷ xs) bytes =
      let a = sum_by-cons (λ (s : Section). length s.bytes) s xs in
      let b = sum_by-cons stored_size s xs in
      let c = bytes_size xs bytes.1 in
      let d = bytes.0 in
      omega (arith, a, b, c, d)

  -- ... parts

  entry_unit : (v : Word) (b : Bool) → (1 ≤ cond b 1 (address_size v)) × (cond b 1 (address_size v) ≤ 32768)
  entry_unit v b = grind arith

  begin_low : contents_begin w n ≤ 20700
  begin_low = let few = is.meets.few in by w few
    where
      by : (v : Word) → length n.sections ≤ 255 → contents_begin v n ≤ 20700
      by v few = grind arith

  near : (x : Part) → IsPartOf n x → (p : ℕ) → part_begin w n p x ≤ p + 65536
  near FileHead own p = omega arith
  near SegmentHead own p = omega arith
  near SectionHeads own p = omega arith
  near SymtabHead own p = omega arith
  near DysymtabHead own p = omega arith
  near (Raw k s) own p =
      let m = (meets_section w n is k s own).align in
      let gap = gap_low s.align (p - contents_begin w n) (align_some s.align m) (power_low s.align m) in
      let begin = begin_low in
      omega (arith, gap, begin)
  near (Relocs k s) own p =
      let u = entry_unit w (eqb (length (relocs_of w n k)) 0) in
      let gap = gap_low (entries_align w (length (relocs_of w n k))) p u.0 u.1 in
      omega (arith, gap)
  near SymbolTable own p = omega arith
  near StringTable own p = omega arith

  abbrev size : Part → ℕ
  size x = part_size w n x

  head_sizes : sum_by size head_parts ≤ 20700
  head_sizes = let few = is.meets.few in by w few
    where
      by : (v : Word) → length n.sections ≤ 255 → sum_by (part_size v n) head_parts ≤ 20700
      by v few = grind arith

  nlist_low : (v : Word) (m : ℕ) → nlist_size v * m ≤ 16 * m
  nlist_low v m = grind arith

  pub small_file : length (mach_file w n) < 2 ^ 32
  unfolding parts_of
  small_file =
      let raws : List Part = map raw_part (stored_sections n) in
      let relocs : List Part = map relocs_part (enumerate_from 0 n.sections) in
      let long = length-mach_file w n in
      let end = laid_low (part_begin w n) (part_size w n) 65536 0 (parts_of n) (λ k x h p. near x (part_is_there n k x h) p) in
      let a = sum_by-append size head_parts (raws ++ (relocs ++ table_parts)) in
      let b = sum_by-append size raws (relocs ++ table_parts) in
      let c = sum_by-append size relocs table_parts in
      let la = length-append head_parts (raws ++ (relocs ++ table_parts)) in
      let lb = length-append raws (relocs ++ table_parts) in
      let lc = length-append relocs table_parts in
      let ld = length-map (stored_sections n) raw_part in
      let le = length_filter (λ x. not (is_blank x)) (enumerate_from 0 n.sections) in
      let lf = length-map (enumerate_from 0 n.sections) relocs_part in
      let lg = length-enumerate_from 0 n.sections in
      let heads = head_sizes in
      let raw_a = sum_map size raw_part (stored_sections n) in
      let raw_b = sum_filter (λ (x : Numbered). length x.1.bytes) (λ x. not (is_blank x)) (enumerate_from 0 n.sections) in
      let raw_c = sum_enumerated (λ (s : Section). length s.bytes) 0 n.sections in
      let raw_d = bytes_size n.sections is.object.built.bytes in
      let rel_a = sum_map size relocs_part (enumerate_from 0 n.sections) in
      let rel_b = relocs_size 0 n.sections n.relocs is.object.built.fields.counted (λ j. let e : 0 + j ≡ j = omega arith in ap (list_of n.relocs) e) in
      let ta = sum_by-cons size SymbolTable (StringTable ∷ []) in
      let tb = sum_by-cons size StringTable [] in
      let symbols = nlist_low w (length (lines_of w n)) in
      let few = few_lines w n is in
      let strings = strings_size in
      let text = line_text in
      let bounds = is.meets.bounds in
      let sections = is.meets.few in
      omega (arith, long, end, a, b, c, la, lb, lc, ld, le, lf, lg, heads, raw_a, raw_b, raw_c, raw_d, rel_a, rel_b, ta, tb, symbols, few, strings, text, sections, bounds.stored, bounds.symbols, bounds.texts, bounds.fields)
