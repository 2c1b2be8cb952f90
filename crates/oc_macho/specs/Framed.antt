-- A file whose header has no fault, as the reader holds it (Mach-O reference, "segment_command" and "symtab_command"; our profile).
use Rattle.std.specs.Prelude.{◌≡◌, ℕ, ◌+◌, ◌*◌, ◌<◌, ◌≤◌, false, true, is_some, List, [], length, map, slice_index_or, None}
use Rattle.oc_base.specs.declared.format.Word.{Word}
use Rattle.oc_shelf.specs.{Reading.Rows.{rows}, Reading.Texts.{text_at}}
use Rattle.oc_macho.specs.{declared.section_header.SectionHeader.{SectionHeader}, declared.relocation_info.TheConstants.{RELOCATION_INFO_SIZE}}
use Rattle.oc_macho.specs.{SectionHeader.{section_header_size, section_header_at}, Nlist.{nlist_size, nlist_at}}
use Rattle.oc_macho.specs.{Tables.{SectionTable, Tables, section_table, tables_of}, Sections.{is_zerofill}}

-- texts begin before a place, and none at it or after it
pub record EndsTexts (strings : List ℕ) (end : ℕ) : Type 0 where
  pub inside : end ≤ length strings
  pub some : (at : ℕ) → at < end → is_some (text_at strings at) ≡ true
  pub none : (at : ℕ) → end ≤ at → text_at strings at ≡ None

-- where the section headers begin and how many there are, the same of the symbols, the strings, and where their texts end
pub record IsFrame (w : Word) (file : List ℕ) (headers_at nsects symoff nsyms : ℕ) (strings : List ℕ) (text_end : ℕ) : Type 0 where
  pub small : length file ≤ 67108864
  pub headers_lie : headers_at + section_header_size w * nsects ≤ length file
  pub symbols_lie : symoff + nlist_size w * nsyms ≤ length file
  pub headers_are_at : (tables_of w file).headers_at ≡ headers_at
  pub sections_are : (tables_of w file).sections ≡ map (section_table file) (rows (section_header_at w) (section_header_size w) file headers_at nsects)
  pub symbols_are_at : (tables_of w file).symbols_at ≡ symoff
  pub symbols_are : (tables_of w file).symbols ≡ rows (nlist_at w) (nlist_size w) file symoff nsyms
  pub strings_are : (tables_of w file).strings ≡ strings
  pub texts_end : EndsTexts strings text_end

-- the header of no section
abbrev pub no_header : SectionHeader
no_header = record { sectname = []; segname = []; addr = 0; size = 0; offset = 0; align = 0; reloff = 0; nreloc = 0; flags = 0 }

-- section i, counted from 0; one without anything where there is none
abbrev pub table_at : Tables → ℕ → SectionTable
table_at t i = slice_index_or t.sections i (record { header = no_header; raw = []; relocs = [] })

-- section i has that header, and what it places lies in the file
pub record IsTable (t : Tables) (i : ℕ) (h : SectionHeader) : Type 0 where
  pub there : i < length t.sections
  pub is : h ≡ (table_at t i).header
  pub entries_lie : h.reloff + RELOCATION_INFO_SIZE * h.nreloc ≤ t.file_size
  pub bytes_lie : is_zerofill h ≡ false → h.offset + h.size ≤ t.file_size
  pub small : h.size ≤ 2147483647
  pub long : length (table_at t i).relocs ≡ h.nreloc
