-- The structures of a canonical file are read back: they are those of which it was made.
use Rattle.std.proofs.Common.{◌≡◌, ℕ, ◌+◌, Bool, true, false, cond, List, [], ◌∷◌, length, map, take, drop, Option, Some, None, refl, sym, ◌∙◌, ap, subst, arith}
use Rattle.std.specs.{Prelude.{slice_get, nat_eq, flat_map}, List.{enumerate_from}, Option.{option_map, option_map_or}}
use Rattle.std.proofs.lemmas.Bool.{ne_eqb}
use Rattle.oc_base.specs.{declared.format.Word.{Word}, declared.format.Word.TheVariants.{W32, W64}}
use Rattle.oc_linking.specs.Numbers.{or_else}
use Rattle.oc_neutral.specs.{declared.section.Section.{Section}, Mach.Kinds.{is_zerofill_tag}, Objects.{Object}}
use Rattle.oc_shelf.specs.{Reading.Rows.{rows}, Writing.Packed.{packed}, Writing.Parts.{Stands}}
use Rattle.oc_shelf.proofs.{WritingLaws.MemberLemmas.{map-map, map-alike, of_map, of_enumerated}, WritingLaws.PackedLemmas.{Fit, number_in}}
use Rattle.oc_shelf.proofs.WritingLaws.StandingLemmas.{stands_take, rows_read}
use Rattle.oc_macho.specs.{declared.mach_header.MachHeader.{MachHeader}, declared.load_command.LoadCommand.{LoadCommand}}
use Rattle.oc_macho.specs.{declared.section_header.SectionHeader.{SectionHeader}, declared.symtab_command.SymtabCommand.{SymtabCommand}}
use Rattle.oc_macho.specs.{declared.nlist.Nlist.{Nlist}, declared.relocation_info.RelocationInfo.{RelocationInfo}}
use Rattle.oc_macho.specs.{MachHeader.{mach_header_size, mach_header_of}, LoadCommand.{load_command_at}}
use Rattle.oc_macho.specs.{SegmentCommand.{segment_number, segment_command_size, segment_command_at}, SectionHeader.{section_header_size, section_header_at}}
use Rattle.oc_macho.specs.{SymtabCommand.{symtab_command_at}, Nlist.{nlist_size, nlist_at}, RelocationInfo.{relocation_info_at}}
use Rattle.oc_macho.specs.Tables.{SectionTable, Tables, command_count, command_place, first_command, segment_place, symtab_place, headers_place, sections_by, symbols_by, strings_by, symtab_of, section_table, tables_of}
use Rattle.oc_macho.specs.Structures.{mach_header_numbers, symtab_numbers, symtab_bytes, section_numbers, section_bytes, nlist_numbers, nlist_bytes, relocation_bytes}
use Rattle.oc_macho_file.specs.{Addresses.{Numbered, is_blank}, Lines.{Line, lines_of}, Bodies.{raw_of}}
use Rattle.oc_macho_file.specs.Layout.{segment_length, relocs_of, string_table, part_where, is_raw, is_relocs, is_symbol_table, is_string_table}
use Rattle.oc_macho_file.specs.Symbols.{line_entry}
use Rattle.oc_macho_file.specs.Canonical.{file_header, segment_numbers, pointer_to, section_header, section_headers, symtab_command, dysymtab_numbers, mach_file}
use Rattle.oc_macho_file.proofs.StructureLaws.{FitsInfo, length-nlist_bytes, length-relocation_bytes, mach_header_stands, symtab_stands, section_stands, nlist_stands, relocation_stands}
use Rattle.oc_macho_file.proofs.PartLaws.{header_is_padded, header_sized, length-headers, length-raw, symtab_at, stands_file_header, stands_segment, stands_headers, stands_symtab, stands_dysymtab, stands_raw, stands_relocs, stands_symbols, stands_strings}

-- the numbers of the structures fit their widths
pub record IsCodable (w : Word) (n : Object) : Type 0 where
  pub head : Fit (mach_header_numbers w (file_header w n))
  pub segment : Fit (segment_numbers w n)
  pub symtab : Fit (symtab_numbers (symtab_command w n))
  pub dysymtab : Fit (dysymtab_numbers w n)
  pub headers : (k : ℕ) (s : Section) → slice_get n.sections k ≡ Some s → Fit (section_numbers w (section_header w n (k, s)))
  pub lines : (k : ℕ) (line : Line) → slice_get (lines_of w n) k ≡ Some line → Fit (nlist_numbers w (line_entry w n line))
  pub relocs : (k j : ℕ) (e : RelocationInfo) → slice_get (relocs_of w n k) j ≡ Some e → FitsInfo e
  -- a section that has bytes in the file has all
  pub stored : (k : ℕ) (s : Section) → slice_get n.sections k ≡ Some s → is_zerofill_tag s.tag ≡ false → (is_blank (k, s) ≡ false) × (length s.bytes ≡ s.size)

-- the section at a position, as the file has it
abbrev pub made_table : Word → Object → Numbered → SectionTable
made_table w n x = record {
  header = section_header w n x;
  raw = cond (is_zerofill_tag x.1.tag) [] (raw_of w n x.0 x.1);
  relocs = relocs_of w n x.0;
}

-- the sections
abbrev pub made_sections : Word → Object → List SectionTable
made_sections w n = map (made_table w n) (enumerate_from 0 n.sections)

-- the structures of the file
unfoldable pub made_tables : Word → Object → Tables
made_tables w n = record {
  word = w;
  file_size = length (mach_file w n);
  headers_at = mach_header_size w + segment_command_size w;
  sections = made_sections w n;
  symbols_at = part_where w n is_symbol_table;
  symbols = map (line_entry w n) (lines_of w n);
  strings = string_table w n;
}

map_same : {X : Type 0} (xs : List X) → map (λ x. x) xs ≡ xs
map_same [] = refl
map_same (x ∷ xs) = ap (λ ys. x ∷ ys) (map_same xs)

-- the three commands
abbrev pub segment_is : Word → Object → LoadCommand
segment_is w n = record { cmd = segment_number w; cmdsize = segment_length w n }

abbrev pub symtab_is : LoadCommand
symtab_is = record { cmd = 2; cmdsize = 24 }

abbrev pub dysymtab_is : LoadCommand
dysymtab_is = record { cmd = 11; cmdsize = 80 }

module _ (w : Word) (n : Object) (fits : IsCodable w n) where
  abbrev file : List ℕ
  file = mach_file w n

  pub header_read : mach_header_of file ≡ file_header w n
  header_read = mach_header_stands w file (file_header w n) (stands_file_header w n) fits.head

  pub count_read : command_count file ≡ 3
  unfolding file_header
  count_read = ap (λ (h : MachHeader). h.ncmds) header_read

  -- ... commands

  pub segment_read : load_command_at file (mach_header_size w) ≡ segment_is w n
  unfolding load_command_at segment_numbers
  segment_read = rw (
    number_in file (mach_header_size w) (segment_numbers w n) 0 (mach_header_size w) (stands_segment w n) fits.segment (omega arith) (omega arith),
    number_in file (mach_header_size w) (segment_numbers w n) 1 (mach_header_size w + 4) (stands_segment w n) fits.segment (omega arith) refl,
  ) refl

  pub symtab_read : load_command_at file (symtab_at w n) ≡ symtab_is
  unfolding load_command_at symtab_bytes
  symtab_read = rw (
    number_in file (symtab_at w n) (symtab_numbers (symtab_command w n)) 0 (symtab_at w n) (stands_symtab w n) fits.symtab (omega arith) (omega arith),
    number_in file (symtab_at w n) (symtab_numbers (symtab_command w n)) 1 (symtab_at w n + 4) (stands_symtab w n) fits.symtab (omega arith) refl,
  ) refl

  pub dysymtab_read : load_command_at file (symtab_at w n + 24) ≡ dysymtab_is
  unfolding load_command_at dysymtab_numbers
  dysymtab_read = rw (
    number_in file (symtab_at w n + 24) (dysymtab_numbers w n) 0 (symtab_at w n + 24) (stands_dysymtab w n) fits.dysymtab (omega arith) (omega arith),
    number_in file (symtab_at w n + 24) (dysymtab_numbers w n) 1 (symtab_at w n + 24 + 4) (stands_dysymtab w n) fits.dysymtab (omega arith) refl,
  ) refl

  -- where they begin
  pub second_place : command_place w file 1 ≡ symtab_at w n
  second_place = ap (λ (c : LoadCommand). mach_header_size w + c.cmdsize) segment_read

  pub third_place : command_place w file 2 ≡ symtab_at w n + 24
  third_place = ap (λ at. at + (load_command_at file at).cmdsize) second_place ∙ ap (λ (c : LoadCommand). symtab_at w n + c.cmdsize) symtab_read

  -- what the first two are
  pub first_is : load_command_at file (command_place w file 0) ≡ segment_is w n
  first_is = segment_read

  pub second_is : load_command_at file (command_place w file 1) ≡ symtab_is
  second_is = ap (load_command_at file) second_place ∙ symtab_read

  pub third_is : load_command_at file (command_place w file 2) ≡ dysymtab_is
  third_is = ap (load_command_at file) third_place ∙ dysymtab_read

  -- the place of the first command with that number, where these are the three
  abbrev found_by : ℕ → LoadCommand → LoadCommand → LoadCommand → Option ℕ
  found_by cmd a b c = or_else (or_else (or_else None (cond (nat_eq a.cmd cmd) (Some (command_place w file 0)) None)) (cond (nat_eq b.cmd cmd) (Some (command_place w file 1)) None))
      (cond (nat_eq c.cmd cmd) (Some (command_place w file 2)) None)

  found_is : (cmd : ℕ) → first_command w file cmd (command_count file) ≡ found_by cmd (segment_is w n) symtab_is dysymtab_is
  found_is cmd =
      ap (first_command w file cmd) count_read
      ∙ ap (λ a. found_by cmd a (load_command_at file (command_place w file 1)) (load_command_at file (command_place w file 2))) first_is
      ∙ ap (λ b. found_by cmd (segment_is w n) b (load_command_at file (command_place w file 2))) second_is
      ∙ ap (found_by cmd (segment_is w n) symtab_is) third_is

  pub segment_found : segment_place w file ≡ Some (mach_header_size w)
  segment_found = found_is (segment_number w) ∙ by w
    where
      by : (v : Word) → or_else (or_else (or_else None (cond (nat_eq (segment_number v) (segment_number v)) (Some (mach_header_size w)) None)) (cond (nat_eq 2 (segment_number v)) (Some (command_place w file 1)) None))
          (cond (nat_eq 11 (segment_number v)) (Some (command_place w file 2)) None) ≡ Some (mach_header_size w)
      by W32 = refl
      by W64 = refl

  pub symtab_found : symtab_place w file ≡ Some (symtab_at w n)
  symtab_found = found_is 2 ∙ by w ∙ ap Some second_place
    where
      by : (v : Word) → or_else (or_else (or_else None (cond (nat_eq (segment_number v) 2) (Some (mach_header_size w)) None)) (Some (command_place w file 1))) None ≡ Some (command_place w file 1)
      by v = grind arith

  pub symtab_command_read : symtab_of w file ≡ Some (symtab_command w n)
  symtab_command_read = ap (option_map (symtab_command_at file)) symtab_found ∙ ap Some (symtab_stands file (symtab_at w n) (symtab_command w n) (stands_symtab w n) fits.symtab)

  -- ... sections

  pub nsects_read : (segment_command_at w file (mach_header_size w)).nsects ≡ length n.sections
  unfolding segment_command_at segment_numbers
  nsects_read = by w (stands_segment w n) fits.segment
    where
      by : (w : Word) → Stands file (mach_header_size w) (packed (segment_numbers w n)) → Fit (segment_numbers w n) → (segment_command_at w file (mach_header_size w)).nsects ≡ length n.sections
      by W32 s fit = number_in file 28 (segment_numbers W32 n) 9 (28 + 48) s fit (omega arith) refl
      by W64 s fit = number_in file 32 (segment_numbers W64 n) 9 (32 + 64) s fit (omega arith) refl

  header_there : (k : ℕ) (h : SectionHeader) → slice_get (section_headers w n) k ≡ Some h → (p : ℕ) → Stands file p (section_bytes w h) → section_header_at w file p ≡ h
  header_there k h here p stands =
      let x = of_map (section_header w n) (enumerate_from 0 n.sections) k h here in
      let y = of_enumerated 0 n.sections k x.0 x.1 in
      let e : k ≡ x.0.0 = omega (arith, y.0) in
      let a = header_is_padded w n x.0 in
      subst (λ (g : SectionHeader). Stands file p (section_bytes w g) → section_header_at w file p ≡ g) x.2
      (λ s. section_stands w file p (section_header w n x.0) s a.0 a.1 (fits.headers x.0.0 x.0.1 (ap (slice_get n.sections) (sym e) ∙ y.1))) stands

  pub headers_read : rows (section_header_at w) (section_header_size w) file (mach_header_size w + segment_command_size w) (length n.sections) ≡ section_headers w n
  headers_read =
      ap (rows (section_header_at w) (section_header_size w) file (mach_header_size w + segment_command_size w)) (sym (length-headers w n))
      ∙ rows_read (section_header_at w) (section_header_size w) (section_bytes w) (λ h. h) file (mach_header_size w + segment_command_size w) (section_headers w n)
      (header_sized w n) (λ k p h here stands. header_there k h here p stands) (stands_headers w n)
      ∙ map_same (section_headers w n)

  -- the entries of a section
  pub relocs_read : (k : ℕ) (s : Section) → slice_get n.sections k ≡ Some s
      → rows relocation_info_at 8 file (pointer_to (part_where w n (is_relocs k)) (length (relocs_of w n k))) (length (relocs_of w n k)) ≡ relocs_of w n k
  relocs_read k s here = by (relocs_of w n k) (stands_relocs w n k s here) (fits.relocs k)
    where
      by : (es : List RelocationInfo) → Stands file (part_where w n (is_relocs k)) (flat_map relocation_bytes es) → ((j : ℕ) (e : RelocationInfo) → slice_get es j ≡ Some e → FitsInfo e)
          → rows relocation_info_at 8 file (pointer_to (part_where w n (is_relocs k)) (length es)) (length es) ≡ es
      by [] stands bits = refl
      by (e ∷ es) stands bits =
          ap (λ b. rows relocation_info_at 8 file (cond b 0 (part_where w n (is_relocs k))) (length (e ∷ es))) (ne_eqb (length (e ∷ es)) 0 (λ h. omega (arith, h)))
          ∙ rows_read relocation_info_at 8 relocation_bytes (λ e. e) file (part_where w n (is_relocs k)) (e ∷ es) (λ j x h. length-relocation_bytes x)
          (λ j p x h st. relocation_stands file p x st (bits j x h)) stands
          ∙ map_same (e ∷ es)

  table_read : (k : ℕ) (s : Section) → slice_get n.sections k ≡ Some s → section_table file (section_header w n (k, s)) ≡ made_table w n (k, s)
  unfolding section_table section_header
  table_read k s here =
      ap (λ rs. record { header = section_header w n (k, s); raw = cond (is_zerofill_tag s.tag) [] (take s.size (drop (part_where w n (is_raw k)) file)); relocs = rs }) (relocs_read k s here)
      ∙ ap (λ xs. record { header = section_header w n (k, s); raw = xs; relocs = relocs_of w n k }) (by (is_zerofill_tag s.tag) refl)
    where
      by : (b : Bool) → is_zerofill_tag s.tag ≡ b → cond b [] (take s.size (drop (part_where w n (is_raw k)) file)) ≡ cond b [] (raw_of w n k s)
      by true e = refl
      by false e =
          let f = fits.stored k s here e in
          stands_take file (raw_of w n k s) (part_where w n (is_raw k)) s.size (stands_raw w n k s here f.0) (sym f.1 ∙ sym (length-raw w n k s))

  pub sections_read : map (section_table file) (section_headers w n) ≡ made_sections w n
  sections_read =
      map-map (section_table file) (section_header w n) (enumerate_from 0 n.sections)
      ∙ map-alike (λ x. section_table file (section_header w n x)) (made_table w n) (enumerate_from 0 n.sections)
      (λ k x h. let y = of_enumerated 0 n.sections k x h in let e : k ≡ x.0 = omega (arith, y.0) in table_read x.0 x.1 (ap (slice_get n.sections) (sym e) ∙ y.1))

  pub by_segment : sections_by w file (mach_header_size w) ≡ made_sections w n
  by_segment =
      ap (λ m. map (section_table file) (rows (section_header_at w) (section_header_size w) file (mach_header_size w + segment_command_size w) m)) nsects_read
      ∙ ap (map (section_table file)) headers_read
      ∙ sections_read

  -- ... symbols and strings

  pub symbols_read : symbols_by w file (symtab_command w n) ≡ map (line_entry w n) (lines_of w n)
  unfolding symtab_command
  symbols_read =
      rows_read (nlist_at w) (nlist_size w) (λ line. nlist_bytes w (line_entry w n line)) (line_entry w n) file (part_where w n is_symbol_table) (lines_of w n)
      (λ k x h. length-nlist_bytes w (line_entry w n x)) (λ k p x here stands. nlist_stands w file p (line_entry w n x) stands (fits.lines k x here)) (stands_symbols w n)

  pub strings_read : strings_by file (symtab_command w n) ≡ string_table w n
  unfolding symtab_command
  strings_read = stands_take file (string_table w n) (part_where w n is_string_table) (length (string_table w n)) (stands_strings w n) refl

  -- the structures of the file are those of which it was made
  abbrev tables_by : Option ℕ → Option SymtabCommand → Tables
  tables_by at c = record {
    word = w;
    file_size = length file;
    headers_at = option_map_or (headers_place w) at 0;
    sections = option_map_or (sections_by w file) at [];
    symbols_at = option_map_or (λ (c : SymtabCommand). c.symoff) c 0;
    symbols = option_map_or (symbols_by w file) c [];
    strings = option_map_or (strings_by file) c [];
  }

  abbrev tables_with : List SectionTable → List Nlist → List ℕ → Tables
  tables_with sections symbols strings = record {
    word = w;
    file_size = length file;
    headers_at = mach_header_size w + segment_command_size w;
    sections = sections;
    symbols_at = (symtab_command w n).symoff;
    symbols = symbols;
    strings = strings;
  }

  pub tables_read : tables_of w file ≡ made_tables w n
  unfolding tables_of made_tables symtab_command
  tables_read =
      ap (λ at. tables_by at (symtab_of w file)) segment_found
      ∙ ap (tables_by (Some (mach_header_size w))) symtab_command_read
      ∙ ap (λ xs. tables_with xs (symbols_by w file (symtab_command w n)) (strings_by file (symtab_command w n))) by_segment
      ∙ ap (λ xs. tables_with (made_sections w n) xs (strings_by file (symtab_command w n))) symbols_read
      ∙ ap (tables_with (made_sections w n) (map (line_entry w n) (lines_of w n))) strings_read
