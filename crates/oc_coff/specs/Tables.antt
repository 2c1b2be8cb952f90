-- The structures of a COFF file where its headers place them (PE/COFF, "COFF File Header", "Section Table", "COFF Relocations", "COFF Symbol Table" and
-- "COFF String Table").
use Rattle.std.specs.Prelude.{ℕ, ◌+◌, ◌-◌, ◌*◌, Bool, not, ◌&&◌, nat_eq, nat_lt, if◌then◌else◌, List, [], length, take, drop, map}
use Rattle.oc_base.specs.Numbers.{number_at}
use Rattle.oc_neutral.specs.{KindRules.{has}, declared.coff.TheConstants.{IMAGE_SCN_LNK_NRELOC_OVFL}}
use Rattle.oc_shelf.specs.Reading.Rows.{rows}
use Rattle.oc_coff.specs.{declared.constants.TheConstants.{OVERFLOWED_COUNT}, declared.section_header.TheConstants.{SECTION_HEADER_SIZE}}
use Rattle.oc_coff.specs.{declared.relocation.TheConstants.{RELOCATION_SIZE}, declared.file_header.FileHeader.{FileHeader}, declared.form.Shape.{Shape}}
use Rattle.oc_coff.specs.{declared.section_header.SectionHeader.{SectionHeader}, declared.symbol.SymbolEntry.{SymbolEntry}}
use Rattle.oc_coff.specs.{declared.section_aux.SectionAux.{SectionAux}, declared.weak_aux.WeakAux.{WeakAux}, declared.relocation.Relocation.{Relocation}}
use Rattle.oc_coff.specs.{Forms.{header_size, symbol_size}, FileHeader.{file_header_of}, SectionHeader.{section_header_at}, SymbolEntry.{symbol_at}}
use Rattle.oc_coff.specs.{SectionAux.{section_aux_at}, WeakAux.{weak_aux_at}, Relocation.{relocation_at}}

-- a section: its header, the bytes at its pointer (none where that is 0), and its relocation entries with the place of the first
pub record SectionTable : Type 0 where
  pub header : SectionHeader
  pub raw : List ℕ
  pub relocs_at : ℕ
  pub relocs : List Relocation

-- an entry of the symbol table, as each of the structures that it can be
pub record Slot : Type 0 where
  pub symbol : SymbolEntry
  pub section : SectionAux
  pub weak : WeakAux

-- a file: its shape; its sections, which are numbered from 1; the entries of its symbol table, auxiliary ones among them, with the place of the first;
-- and its string table, whose first bytes are its size
pub record Tables : Type 0 where
  pub shape : Shape
  pub sections : List SectionTable
  pub entries_at : ℕ
  pub entries : List Slot
  pub strings : List ℕ

-- the count of a section's relocation entries does not fit its header, and is in the first of them
abbrev pub is_overflowed : SectionHeader → Bool
is_overflowed h = has h.Characteristics IMAGE_SCN_LNK_NRELOC_OVFL && nat_eq h.NumberOfRelocations OVERFLOWED_COUNT

-- where they begin, after the one that holds their count
abbrev pub relocs_place : SectionHeader → ℕ
relocs_place h = if is_overflowed h then h.PointerToRelocations + RELOCATION_SIZE else h.PointerToRelocations

-- how many there are, without the one that holds their count
abbrev pub reloc_count : List ℕ → SectionHeader → ℕ
reloc_count file h = if is_overflowed h then number_at file h.PointerToRelocations 4 - 1 else h.NumberOfRelocations

-- a section by its header
unfoldable pub section_table : List ℕ → SectionHeader → SectionTable
section_table file h = record {
  header = h;
  raw = if nat_eq h.PointerToRawData 0 then [] else take h.SizeOfRawData (drop h.PointerToRawData file);
  relocs_at = relocs_place h;
  relocs = rows relocation_at RELOCATION_SIZE file (relocs_place h) (reloc_count file h);
}

-- an entry at a place of the file
unfoldable pub slot_at : Shape → List ℕ → ℕ → Slot
slot_at shape file at = record { symbol = symbol_at shape file at; section = section_aux_at shape file at; weak = weak_aux_at file at }

-- where the string table begins: after the symbols
abbrev pub strings_place : Shape → FileHeader → ℕ
strings_place shape h = h.PointerToSymbolTable + symbol_size shape * h.NumberOfSymbols

-- a string table is present: there are symbols, and more bytes after them
abbrev pub has_strings : Shape → List ℕ → FileHeader → Bool
has_strings shape file h = not (nat_eq h.PointerToSymbolTable 0) && nat_lt (strings_place shape h) (length file)

-- its size, which is stored in it
abbrev pub strings_size : Shape → List ℕ → FileHeader → ℕ
strings_size shape file h = number_at file (strings_place shape h) 4

-- the string table
unfoldable pub strings_of : Shape → List ℕ → FileHeader → List ℕ
strings_of shape file h = if has_strings shape file h then take (strings_size shape file h) (drop (strings_place shape h) file) else []

-- the entries of the symbol table
unfoldable pub entries_of : Shape → List ℕ → FileHeader → List Slot
entries_of shape file h = if nat_eq h.PointerToSymbolTable 0 then [] else rows (slot_at shape) (symbol_size shape) file h.PointerToSymbolTable h.NumberOfSymbols

-- the sections; their headers follow the file header
unfoldable pub section_tables : Shape → List ℕ → FileHeader → List SectionTable
section_tables shape file h = map (section_table file) (rows section_header_at SECTION_HEADER_SIZE file (header_size shape) h.NumberOfSections)

-- the structures of a file of that shape
unfoldable pub tables_of : Shape → List ℕ → Tables
tables_of shape file =
    let h : FileHeader = file_header_of shape file in
    record { shape = shape; sections = section_tables shape file h; entries_at = h.PointerToSymbolTable; entries = entries_of shape file h; strings = strings_of shape file h }
