-- The structures of a canonical file are read back.
use Rattle.oc_coff.specs.{WeakAux.{weak_aux_at}, SectionAux.{section_aux_at}, declared.form.CoffForm.{CoffForm}, declared.file_header.FileHeader.{FileHeader}}
use Rattle.oc_coff.specs.{declared.section_header.SectionHeader.{SectionHeader}, declared.symbol.SymbolEntry.{SymbolEntry}}
use Rattle.oc_coff.specs.{declared.relocation.Relocation.{Relocation}, declared.form.Shape.{Shape}, declared.form.Shape.TheVariants.{Usual, Big}}
use Rattle.oc_coff.specs.{Forms.{header_size, shape_of, symbol_size, word_of}, FileHeader.{file_header_of, file_header_bytes, file_header_numbers}}
use Rattle.oc_coff.specs.{SectionHeader.{section_header_at, section_header_bytes}, SymbolEntry.{symbol_at, symbol_bytes}}
use Rattle.oc_coff.specs.Relocation.{relocation_at, relocation_bytes}
use Rattle.oc_coff.specs.Tables.{SectionTable, Tables, relocs_place, section_table, strings_of, entries_of, section_tables, tables_of, slot_at, Slot, reloc_count}
use Rattle.oc_coff.specs.Flags.{is_crowded, count_entry, with_count, pointer_to, section_flags, machine_of, version_of}
use Rattle.std.proofs.Common.{◌≡◌, ℕ, suc, ◌+◌, ◌-◌, ◌*◌, ◌^◌, ◌<◌, ◌≤◌, Bool, true, false, cond, eqb, List, [], ◌∷◌, ◌++◌, length, map, take, drop, Some, refl, sym, ◌∙◌, ap, subst, arith, append-nil, length-append}
use Rattle.std.specs.{Prelude.{slice_get, flat_map, nat_lt, min}, List.{enumerate_from}}
use Rattle.std.proofs.lemmas.{List.FromFn.{length-enumerate_from}, Bool.{eqb-true, ne_eqb, ltb-true, lt-ltb}}
use Rattle.oc_base.specs.Numbers.{number_at, bytes_of_number}
use Rattle.oc_base.proofs.NumberLaws.{length-bytes_of_number}
use Rattle.oc_neutral.specs.{declared.section.Section.{Section}, Objects.{Object}, KindRules.{has}, declared.coff.TheConstants.{IMAGE_SCN_LNK_NRELOC_OVFL}}
use Rattle.oc_shelf.proofs.WritingLaws.PackedLemmas.{Fit}
use Rattle.oc_shelf.proofs.WritingLaws.StandingLemmas.{stands_front, stands_back, stands_drop, stands_take, stands_number, number_within, bytes_within, rows_read}
use Rattle.oc_shelf.proofs.WritingLaws.MemberLemmas.{map-alike, map-map, each_enumerated}
use Rattle.oc_coff_file.proofs.StructureLaws.{IsShaped, FitSymbol, file_header_of-bytes, section_header_numbers, length-section_header_bytes, section_header_at-bytes, section_header_at-shift, symbol_at-bytes, length-relocation_bytes, relocation_at-bytes, relocation_at-shift, relocation_numbers}
use Rattle.oc_coff_file.proofs.PartLaws.{header_is_eight, entries_are_rows, length-entry_rows, stands_raw, stands_relocs, table_place, table_past, table_place_is, stands_symbols, stands_strings, length-coff_file, stands_header, stands_headers, length-raw, raw_past}
use Rattle.oc_shelf.specs.{Writing.Parts.{Stands, place_where}, Reading.Rows.{rows}}
use Rattle.oc_coff_file.specs.{Lines.{numbered_lines, entry_count}, Bodies.{raw_of, relocs_of}}
use Rattle.oc_coff_file.specs.Layout.{text_of, laid_parts, is_raw, is_relocs, is_symbol_table}
use Rattle.oc_coff_file.specs.Canonical.{header_at, entry_rows, file_header, string_table, coff_file}
use Rattle.oc_linking.proofs.Testing.{not_below}

-- what the header counts
pub symbols_counted : (w : CoffForm) (n : Object) → (file_header w n).NumberOfSymbols ≡ entry_count w n
unfolding file_header
symbols_counted w n = refl

-- ... structures where their bytes stand

pub file_header_stands : (z : Shape) (file : List ℕ) (h : FileHeader) → Stands file 0 (file_header_bytes z h) → IsShaped z h → Fit (file_header_numbers z h) → file_header_of z file ≡ h
file_header_stands z file h s shaped fit = ap (file_header_of z) (stands_drop file (file_header_bytes z h) 0 s) ∙ file_header_of-bytes z h s.back shaped fit

pub section_header_stands : (file : List ℕ) (at : ℕ) (h : SectionHeader) → Stands file at (section_header_bytes h) → length h.Name ≡ 8 → Fit (section_header_numbers h)
    → section_header_at file at ≡ h
section_header_stands file at h s eight fit =
    let e : at ≡ length s.front + 0 = omega (arith, s.place) in
    ap (λ zs. section_header_at zs at) s.is ∙ section_header_at-shift s.front (section_header_bytes h ++ s.back) at 0 e ∙ section_header_at-bytes h s.back eight fit

pub relocation_stands : (file : List ℕ) (at : ℕ) (r : Relocation) → Stands file at (relocation_bytes r) → Fit (relocation_numbers r) → relocation_at file at ≡ r
relocation_stands file at r s fit =
    let e : at ≡ length s.front + 0 = omega (arith, s.place) in
    ap (λ zs. relocation_at zs at) s.is ∙ relocation_at-shift s.front (relocation_bytes r ++ s.back) at 0 e ∙ relocation_at-bytes r s.back fit

-- an entry of the symbol table is read from its own bytes
pub slot_stands : (z : Shape) (file : List ℕ) (at : ℕ) (row : List ℕ) → Stands file at row → length row ≡ symbol_size z → slot_at z file at ≡ slot_at z row 0
unfolding slot_at symbol_at section_aux_at weak_aux_at
slot_stands Usual file at row s long = rw (
  bytes_within file row at 8 s (omega (arith, long)),
  number_within file row at 8 4 (at + 8) s (omega (arith, long)) refl,
  number_within file row at 12 2 (at + 12) s (omega (arith, long)) refl,
  number_within file row at 14 2 (at + 14) s (omega (arith, long)) refl,
  number_within file row at 16 1 (at + 16) s (omega (arith, long)) refl,
  number_within file row at 17 1 (at + 17) s (omega (arith, long)) refl,
  number_within file row at 0 4 at s (omega (arith, long)) (omega arith),
  number_within file row at 4 2 (at + 4) s (omega (arith, long)) refl,
  number_within file row at 6 2 (at + 6) s (omega (arith, long)) refl,
  number_within file row at 14 1 (at + 14) s (omega (arith, long)) refl,
  number_within file row at 4 4 (at + 4) s (omega (arith, long)) refl,
) refl
slot_stands Big file at row s long = rw (
  bytes_within file row at 8 s (omega (arith, long)),
  number_within file row at 8 4 (at + 8) s (omega (arith, long)) refl,
  number_within file row at 12 4 (at + 12) s (omega (arith, long)) refl,
  number_within file row at 16 2 (at + 16) s (omega (arith, long)) refl,
  number_within file row at 18 1 (at + 18) s (omega (arith, long)) refl,
  number_within file row at 19 1 (at + 19) s (omega (arith, long)) refl,
  number_within file row at 0 4 at s (omega (arith, long)) (omega arith),
  number_within file row at 4 2 (at + 4) s (omega (arith, long)) refl,
  number_within file row at 6 2 (at + 6) s (omega (arith, long)) refl,
  number_within file row at 12 2 (at + 12) s (omega (arith, long)) refl,
  number_within file row at 14 1 (at + 14) s (omega (arith, long)) refl,
  number_within file row at 4 4 (at + 4) s (omega (arith, long)) refl,
) refl

-- an entry as it is read from its own bytes
abbrev pub read_row : Shape → List ℕ → Slot
read_row z row = slot_at z row 0

pub symbol_whole : (z : Shape) (s : SymbolEntry) → length s.Name ≡ 8 → FitSymbol z s → symbol_at z (symbol_bytes z s) 0 ≡ s
symbol_whole z s eight fit = ap (λ zs. symbol_at z zs 0) (sym (simp append-nil)) ∙ symbol_at-bytes z s [] eight fit

-- a list of relocations
map_same : {X : Type 0} (xs : List X) → map (λ x. x) xs ≡ xs
map_same [] = refl
map_same (x ∷ xs) = ap (λ ys. x ∷ ys) (map_same xs)

pub relocations_stand : (file : List ℕ) (at : ℕ) (rs : List Relocation) → Stands file at (flat_map relocation_bytes rs) → ((j : ℕ) (r : Relocation) → slice_get rs j ≡ Some r → Fit (relocation_numbers r))
    → rows relocation_at 10 file at (length rs) ≡ rs
relocations_stand file at rs s fits =
    rows_read relocation_at 10 relocation_bytes (λ r. r) file at rs (λ k r h. length-relocation_bytes r) (λ k p r h stands. relocation_stands file p r stands (fits k r h)) s ∙ map_same rs

-- nothing has no bytes
nothing : (xs : List ℕ) → length xs ≡ 0 → xs ≡ []
nothing [] e = refl
nothing (x ∷ xs) e = absurd (omega (arith, e))

no_relocs : (xs : List Relocation) → length xs ≡ 0 → xs ≡ []
no_relocs [] e = refl
no_relocs (x ∷ xs) e = absurd (omega (arith, e))

-- ... the file

-- the numbers of the structures fit their widths
pub record IsCodable (w : CoffForm) (n : Object) : Type 0 where
  pub small : length (coff_file w n) < 2 ^ 32
  pub head : Fit (file_header_numbers (shape_of w) (file_header w n))
  pub headers : (k : ℕ) (s : Section) → slice_get n.sections k ≡ Some s → Fit (section_header_numbers (header_at w n (k, s)))
  pub relocs : (k j : ℕ) (r : Relocation) → slice_get (with_count (relocs_of w (numbered_lines w n) n k)) j ≡ Some r → Fit (relocation_numbers r)
  -- a section that has bytes has so many
  pub sizes : (k : ℕ) (s : Section) → slice_get n.sections k ≡ Some s → 0 < length s.bytes → s.size ≡ length s.bytes
  -- the flag of a count that does not fit is that
  pub crowded : (k : ℕ) (s : Section) → slice_get n.sections k ≡ Some s
      → has (section_flags s (relocs_of w (numbered_lines w n) n k)) IMAGE_SCN_LNK_NRELOC_OVFL ≡ is_crowded (relocs_of w (numbered_lines w n) n k)

-- the section at a position, as the file has it
abbrev pub made_table : CoffForm → Object → ℕ × Section → SectionTable
made_table w n x = record {
  header = header_at w n x;
  raw = raw_of w n x.0 x.1;
  relocs_at = relocs_place (header_at w n x);
  relocs = relocs_of w (numbered_lines w n) n x.0;
}

-- the structures of the file
unfoldable pub made_tables : CoffForm → Object → Tables
made_tables w n = record {
  shape = shape_of w;
  sections = map (made_table w n) (enumerate_from 0 n.sections);
  entries_at = table_place w n;
  entries = map (read_row (shape_of w)) (entry_rows w n);
  strings = string_table w n;
}

module _ (w : CoffForm) (n : Object) (fits : IsCodable w n) where
  abbrev file : List ℕ
  file = coff_file w n

  abbrev relocs : ℕ → List Relocation
  relocs k = relocs_of w (numbered_lines w n) n k

  -- what its shape has no room for is 0
  shaped : IsShaped (shape_of w) (file_header w n)
  unfolding file_header
  shaped = by (shape_of w)
    where
      by : (z : Shape) → IsShaped z (record {
        Machine = machine_of (word_of w);
        NumberOfSections = length n.sections;
        TimeDateStamp = 0;
        PointerToSymbolTable = place_where is_symbol_table (laid_parts w n);
        NumberOfSymbols = entry_count w n;
        SizeOfOptionalHeader = 0;
        Characteristics = 0;
        Version = version_of z;
      })
      by Usual = refl
      by Big = (refl, refl)

  pub header_read : file_header_of (shape_of w) file ≡ file_header w n
  header_read = file_header_stands (shape_of w) file (file_header w n) (stands_header w n) shaped fits.head

  headers_read : rows section_header_at 40 file (header_size (shape_of w)) (length n.sections) ≡ map (header_at w n) (enumerate_from 0 n.sections)
  headers_read =
      let count : length n.sections ≡ length (enumerate_from 0 n.sections) = sym (length-enumerate_from 0 n.sections) in
      ap (rows section_header_at 40 file (header_size (shape_of w))) count
      ∙ rows_read section_header_at 40 (λ (x : ℕ × Section). section_header_bytes (header_at w n x)) (header_at w n) file (header_size (shape_of w)) (enumerate_from 0 n.sections)
      (λ k x h. length-section_header_bytes (header_at w n x) (header_is_eight w n x))
      (λ k p x h s. section_header_stands file p (header_at w n x) s (header_is_eight w n x)
      (each_enumerated (λ y. Fit (section_header_numbers (header_at w n y))) 0 n.sections (λ j t there. let e : j ≡ 0 + j = omega arith in
      subst (λ i. Fit (section_header_numbers (header_at w n (i, t)))) e (fits.headers j t there)) k x h))
      (subst (Stands file (header_size (shape_of w))) (flat (enumerate_from 0 n.sections)) (stands_headers w n))
    where
      flat : (xs : List (ℕ × Section)) → flat_map section_header_bytes (map (header_at w n) xs) ≡ flat_map (λ (x : ℕ × Section). section_header_bytes (header_at w n x)) xs
      flat [] = refl
      flat (x ∷ xs) = ap (λ zs. section_header_bytes (header_at w n x) ++ zs) (flat xs)

  -- the bytes of a section
  raw_read : (k : ℕ) (s : Section) → slice_get n.sections k ≡ Some s
      → cond (eqb (header_at w n (k, s)).PointerToRawData 0) [] (take (header_at w n (k, s)).SizeOfRawData (drop (header_at w n (k, s)).PointerToRawData file)) ≡ raw_of w n k s
  unfolding header_at
  raw_read k s here = by s.bytes refl
    where
      by : (bytes : List ℕ) → s.bytes ≡ bytes → cond (eqb (pointer_to (place_where (is_raw k) (laid_parts w n)) (length s.bytes)) 0) []
          (take s.size (drop (pointer_to (place_where (is_raw k) (laid_parts w n)) (length s.bytes)) file)) ≡ raw_of w n k s
      by [] e =
          let none : length s.bytes ≡ 0 = ap length e in
          let long = stands_raw w n k s here in
          rw (ap (pointer_to (place_where (is_raw k) (laid_parts w n))) none) (sym (nothing (raw_of w n k s) (length-raw w n k s ∙ none)))
      by (x ∷ bytes) e =
          let many : 0 < length s.bytes = omega (arith, ap length e) in
          let past : 20 ≤ place_where (is_raw k) (laid_parts w n) = raw_past w n k s here in
          let some : pointer_to (place_where (is_raw k) (laid_parts w n)) (length s.bytes) ≡ place_where (is_raw k) (laid_parts w n)
          = ap (λ b. cond b 0 (place_where (is_raw k) (laid_parts w n))) (ne_eqb (length s.bytes) 0 (omega (arith, many))) in
          rw (some, ne_eqb (place_where (is_raw k) (laid_parts w n)) 0 (omega (arith, past)))
          (stands_take file (raw_of w n k s) (place_where (is_raw k) (laid_parts w n)) s.size (stands_raw w n k s here) (fits.sizes k s here many ∙ sym (length-raw w n k s)))

  -- its relocations, where they are too many for its header
  many_read : (k at : ℕ) → Stands file at (flat_map relocation_bytes (count_entry (relocs k) ∷ relocs k)) → ((j : ℕ) (r : Relocation) → slice_get (count_entry (relocs k) ∷ relocs k) j ≡ Some r → Fit (relocation_numbers r))
      → rows relocation_at 10 file (at + 10) (number_at file at 4 - 1) ≡ relocs k
  unfolding relocation_at
  many_read k at s fit =
      let first : relocation_at file at ≡ count_entry (relocs k) = relocation_stands file at (count_entry (relocs k)) (stands_front file (relocation_bytes (count_entry (relocs k))) (flat_map relocation_bytes (relocs k)) at s) (fit 0 (count_entry (relocs k)) refl) in
      let count : number_at file at 4 ≡ length (relocs k) + 1 = ap (λ (r : Relocation). r.VirtualAddress) first in
      let less : number_at file at 4 - 1 ≡ length (relocs k) = omega (arith, count) in
      let next : at + 10 ≡ at + length (relocation_bytes (count_entry (relocs k))) = omega (arith, length-relocation_bytes (count_entry (relocs k))) in
      ap (rows relocation_at 10 file (at + 10)) less
      ∙ relocations_stand file (at + 10) (relocs k) (stands_back file (relocation_bytes (count_entry (relocs k))) (flat_map relocation_bytes (relocs k)) at (at + 10) s next) (λ j r h. fit (suc j) r h)

  -- and where they are not
  few_read : (k at : ℕ) → Stands file at (flat_map relocation_bytes (relocs k)) → ((j : ℕ) (r : Relocation) → slice_get (relocs k) j ≡ Some r → Fit (relocation_numbers r))
      → rows relocation_at 10 file (pointer_to at (length (relocs k))) (length (relocs k)) ≡ relocs k
  few_read k at s fit = by (eqb (length (relocs k)) 0) refl
    where
      by : (b : Bool) → eqb (length (relocs k)) 0 ≡ b → rows relocation_at 10 file (cond (eqb (length (relocs k)) 0) 0 at) (length (relocs k)) ≡ relocs k
      by true e = let none : length (relocs k) ≡ 0 = eqb-true (length (relocs k)) 0 e in
          ap (rows relocation_at 10 file (cond (eqb (length (relocs k)) 0) 0 at)) none ∙ sym (no_relocs (relocs k) none)
      by false e = rw e (relocations_stand file at (relocs k) s fit)

  relocs_read : (k : ℕ) (s : Section) → slice_get n.sections k ≡ Some s
      → rows relocation_at 10 file (relocs_place (header_at w n (k, s))) (reloc_count file (header_at w n (k, s))) ≡ relocs k
  unfolding header_at
  relocs_read k s here = by (is_crowded (relocs k)) refl
    where
      by : (b : Bool) → is_crowded (relocs k) ≡ b → rows relocation_at 10 file (relocs_place (header_at w n (k, s))) (reloc_count file (header_at w n (k, s))) ≡ relocs k
      by true e =
          let at : ℕ = place_where (is_relocs k) (laid_parts w n) in
          let long : 65535 < length (relocs k) = ltb-true 65535 (length (relocs k)) e in
          let capped : min (length (relocs k)) 0xFFFF ≡ 0xFFFF = omega (arith, long) in
          let flag : has (section_flags s (relocs k)) IMAGE_SCN_LNK_NRELOC_OVFL ≡ true = fits.crowded k s here ∙ e in
          let some : pointer_to at (length (relocs k)) ≡ at = ap (λ b. cond b 0 at) (ne_eqb (length (relocs k)) 0 (omega (arith, long))) in
          let counted : with_count (relocs k) ≡ count_entry (relocs k) ∷ relocs k = ap (λ b. cond b (count_entry (relocs k) ∷ relocs k) (relocs k)) e in
          rw (capped, flag, some) (many_read k at (subst (λ rs. Stands file at (flat_map relocation_bytes rs)) counted (stands_relocs w n k s here))
          (subst (λ rs. (j : ℕ) (r : Relocation) → slice_get rs j ≡ Some r → Fit (relocation_numbers r)) counted (fits.relocs k)))
      by false e =
          let at : ℕ = place_where (is_relocs k) (laid_parts w n) in
          let short : length (relocs k) ≤ 65535 = not_below 65535 (length (relocs k)) e in
          let uncapped : min (length (relocs k)) 0xFFFF ≡ length (relocs k) = omega (arith, short) in
          let flag : has (section_flags s (relocs k)) IMAGE_SCN_LNK_NRELOC_OVFL ≡ false = fits.crowded k s here ∙ e in
          let counted : with_count (relocs k) ≡ relocs k = ap (λ b. cond b (count_entry (relocs k) ∷ relocs k) (relocs k)) e in
          rw (uncapped, flag) (few_read k at (subst (λ rs. Stands file at (flat_map relocation_bytes rs)) counted (stands_relocs w n k s here))
          (subst (λ rs. (j : ℕ) (r : Relocation) → slice_get rs j ≡ Some r → Fit (relocation_numbers r)) counted (fits.relocs k)))

  -- the sections
  table_read : (k : ℕ) (s : Section) → slice_get n.sections k ≡ Some s → section_table file (header_at w n (k, s)) ≡ made_table w n (k, s)
  unfolding section_table
  table_read k s here =
      ap (λ raw. record { header = header_at w n (k, s); raw = raw; relocs_at = relocs_place (header_at w n (k, s)); relocs = rows relocation_at 10 file (relocs_place (header_at w n (k, s))) (reloc_count file (header_at w n (k, s))) }) (raw_read k s here)
      ∙ ap (λ rs. record { header = header_at w n (k, s); raw = raw_of w n k s; relocs_at = relocs_place (header_at w n (k, s)); relocs = rs }) (relocs_read k s here)

  sections_read : section_tables (shape_of w) file (file_header w n) ≡ map (made_table w n) (enumerate_from 0 n.sections)
  unfolding section_tables file_header
  sections_read =
      ap (map (section_table file)) headers_read
      ∙ map-map (section_table file) (header_at w n) (enumerate_from 0 n.sections)
      ∙ map-alike (λ x. section_table file (header_at w n x)) (made_table w n) (enumerate_from 0 n.sections)
      (each_enumerated (λ x. section_table file (header_at w n x) ≡ made_table w n x) 0 n.sections (λ j s h.
      let e : j ≡ 0 + j = omega arith in
      subst (λ i. section_table file (header_at w n (i, s)) ≡ made_table w n (i, s)) e (table_read j s h)))

  -- the symbol table
  pub place_there : (file_header w n).PointerToSymbolTable ≡ table_place w n
  unfolding file_header
  place_there = table_place_is w n

  entries_read : entries_of (shape_of w) file (file_header w n) ≡ map (read_row (shape_of w)) (entry_rows w n)
  unfolding entries_of
  entries_read =
      let past : 20 ≤ table_place w n = table_past w n in
      rw (place_there, ne_eqb (table_place w n) 0 (omega (arith, past))) (
      ap (rows (slot_at (shape_of w)) (symbol_size (shape_of w)) file (table_place w n)) (symbols_counted w n ∙ sym (length-entry_rows w n))
      ∙ rows_read (slot_at (shape_of w)) (symbol_size (shape_of w)) (λ row. row) (read_row (shape_of w)) file (table_place w n) (entry_rows w n) (entries_are_rows w n)
      (λ k p row h s. slot_stands (shape_of w) file p row s (entries_are_rows w n k row h)) (stands_symbols w n))

  -- the size in the string table
  pub strings_number : number_at file (table_place w n + symbol_size (shape_of w) * entry_count w n) 4 ≡ 4 + length (text_of w n)
  strings_number =
      let small : length file < 2 ^ 32 = fits.small in
      let long : length file ≡ table_place w n + symbol_size (shape_of w) * entry_count w n + (4 + length (text_of w n)) = length-coff_file w n in
      stands_number file (table_place w n + symbol_size (shape_of w) * entry_count w n) 4 (4 + length (text_of w n))
      (stands_front file (bytes_of_number 4 (4 + length (text_of w n))) (text_of w n) (table_place w n + symbol_size (shape_of w) * entry_count w n) (stands_strings w n)) (omega (arith, small, long))

  -- the string table
  strings_read : strings_of (shape_of w) file (file_header w n) ≡ string_table w n
  unfolding strings_of
  strings_read =
      let past : 20 ≤ table_place w n = table_past w n in
      let small : length file < 2 ^ 32 = fits.small in
      let long : length file ≡ table_place w n + symbol_size (shape_of w) * entry_count w n + (4 + length (text_of w n)) = length-coff_file w n in
      let number : number_at file (table_place w n + symbol_size (shape_of w) * entry_count w n) 4 ≡ 4 + length (text_of w n)
      = stands_number file (table_place w n + symbol_size (shape_of w) * entry_count w n) 4 (4 + length (text_of w n))
      (stands_front file (bytes_of_number 4 (4 + length (text_of w n))) (text_of w n) (table_place w n + symbol_size (shape_of w) * entry_count w n) (stands_strings w n)) (omega (arith, small, long)) in
      let whole : length (string_table w n) ≡ 4 + length (text_of w n)
      = length-append (bytes_of_number 4 (4 + length (text_of w n))) (text_of w n) ∙ ap (λ m. m + length (text_of w n)) (length-bytes_of_number 4 (4 + length (text_of w n))) in
      let there : nat_lt (table_place w n + symbol_size (shape_of w) * entry_count w n) (length file) ≡ true = lt-ltb _ _ (omega (arith, long)) in
      rw (place_there, symbols_counted w n, ne_eqb (table_place w n) 0 (omega (arith, past)), there)
      (stands_take file (string_table w n) (table_place w n + symbol_size (shape_of w) * entry_count w n) (number_at file (table_place w n + symbol_size (shape_of w) * entry_count w n) 4) (stands_strings w n) (number ∙ sym whole))

  -- all
  pub tables_read : tables_of (shape_of w) file ≡ made_tables w n
  unfolding tables_of made_tables
  tables_read =
      ap (λ (h : FileHeader). record { shape = shape_of w; sections = section_tables (shape_of w) file h; entries_at = h.PointerToSymbolTable; entries = entries_of (shape_of w) file h; strings = strings_of (shape_of w) file h }) header_read
      ∙ ap (λ xs. record { shape = shape_of w; sections = xs; entries_at = (file_header w n).PointerToSymbolTable; entries = entries_of (shape_of w) file (file_header w n); strings = strings_of (shape_of w) file (file_header w n) }) sections_read
      ∙ ap (λ p. record { shape = shape_of w; sections = map (made_table w n) (enumerate_from 0 n.sections); entries_at = p; entries = entries_of (shape_of w) file (file_header w n); strings = strings_of (shape_of w) file (file_header w n) }) place_there
      ∙ ap (λ es. record { shape = shape_of w; sections = map (made_table w n) (enumerate_from 0 n.sections); entries_at = table_place w n; entries = es; strings = strings_of (shape_of w) file (file_header w n) }) entries_read
      ∙ ap (λ ss. record { shape = shape_of w; sections = map (made_table w n) (enumerate_from 0 n.sections); entries_at = table_place w n; entries = map (read_row (shape_of w)) (entry_rows w n); strings = ss }) strings_read
