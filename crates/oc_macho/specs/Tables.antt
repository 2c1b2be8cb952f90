-- The structures of a Mach-O file where its commands place them (Mach-O reference, "load_command", "segment_command" and "symtab_command").
use Rattle.std.specs.{Prelude.{ℕ, ◌+◌, Bool, nat_eq, if◌then◌else◌, List, [], length, take, drop, map, Option, Some, None}, Option.{option_map, option_map_or}}
use Rattle.oc_base.specs.declared.format.Word.{Word}
use Rattle.oc_linking.specs.Numbers.{first_upto}
use Rattle.oc_neutral.specs.Mach.Kinds.{is_zerofill_tag}
use Rattle.oc_shelf.specs.{Reading.Rows.{rows}, Reading.Steps.{step_place}}
use Rattle.oc_macho.specs.{declared.constants.TheConstants.{LC_SYMTAB}, declared.relocation_info.TheConstants.{RELOCATION_INFO_SIZE}}
use Rattle.oc_macho.specs.{declared.section_header.SectionHeader.{SectionHeader}, declared.nlist.Nlist.{Nlist}}
use Rattle.oc_macho.specs.{declared.relocation_info.RelocationInfo.{RelocationInfo}, declared.symtab_command.SymtabCommand.{SymtabCommand}}
use Rattle.oc_macho.specs.{MachHeader.{mach_header_size, mach_header_of}, LoadCommand.{load_command_at}}
use Rattle.oc_macho.specs.{SegmentCommand.{segment_number, segment_command_size, segment_command_at}, SymtabCommand.{symtab_command_at}}
use Rattle.oc_macho.specs.{SectionHeader.{section_header_size, section_header_at}, Nlist.{nlist_size, nlist_at}, RelocationInfo.{relocation_info_at}}

-- a section: its header, its bytes in the file (none where its type is ZEROFILL), and its relocation entries
pub record SectionTable : Type 0 where
  pub header : SectionHeader
  pub raw : List ℕ
  pub relocs : List RelocationInfo

-- a file: its sections, which are numbered from 1, with the place of the first header; its symbols, from 0, with the place of the first; its strings
pub record Tables : Type 0 where
  pub word : Word
  pub file_size : ℕ
  pub headers_at : ℕ
  pub sections : List SectionTable
  pub symbols_at : ℕ
  pub symbols : List Nlist
  pub strings : List ℕ

-- ... the load commands, which follow the file header one after another

-- how many there are
abbrev pub command_count : List ℕ → ℕ
command_count file = (mach_header_of file).ncmds

-- where command i begins
abbrev pub command_place : Word → List ℕ → ℕ → ℕ
command_place w file i = step_place (λ at. (load_command_at file at).cmdsize) (mach_header_size w) i

-- command i is of that kind
abbrev pub is_command : Word → List ℕ → ℕ → ℕ → Bool
is_command w file cmd i = nat_eq (load_command_at file (command_place w file i)).cmd cmd

-- where the first command of a kind begins, among the first n
abbrev pub first_command : Word → List ℕ → ℕ → ℕ → Option ℕ
first_command w file cmd n = first_upto (λ i. if is_command w file cmd i then Some (command_place w file i) else None) n

-- where the command for the segment begins, and the one that places symbols and strings
abbrev pub segment_place : Word → List ℕ → Option ℕ
segment_place w file = first_command w file (segment_number w) (command_count file)

abbrev pub symtab_place : Word → List ℕ → Option ℕ
symtab_place w file = first_command w file LC_SYMTAB (command_count file)

-- ... what they place

-- a section by its header
unfoldable pub section_table : List ℕ → SectionHeader → SectionTable
section_table file h = record {
  header = h;
  raw = if is_zerofill_tag h.flags then [] else take h.size (drop h.offset file);
  relocs = rows relocation_info_at RELOCATION_INFO_SIZE file h.reloff h.nreloc;
}

-- where the section headers of a segment begin
abbrev pub headers_place : Word → ℕ → ℕ
headers_place w at = at + segment_command_size w

-- the sections of a segment
abbrev pub sections_by : Word → List ℕ → ℕ → List SectionTable
sections_by w file at =
    map (section_table file) (rows (section_header_at w) (section_header_size w) file (headers_place w at) (segment_command_at w file at).nsects)

-- the symbols, and the strings
abbrev pub symbols_by : Word → List ℕ → SymtabCommand → List Nlist
symbols_by w file c = rows (nlist_at w) (nlist_size w) file c.symoff c.nsyms

abbrev pub strings_by : List ℕ → SymtabCommand → List ℕ
strings_by file c = take c.strsize (drop c.stroff file)

-- the command that places symbols and strings
abbrev pub symtab_of : Word → List ℕ → Option SymtabCommand
symtab_of w file = option_map (symtab_command_at file) (symtab_place w file)

-- the structures of a file
unfoldable pub tables_of : Word → List ℕ → Tables
tables_of w file = record {
  word = w;
  file_size = length file;
  headers_at = option_map_or (headers_place w) (segment_place w file) 0;
  sections = option_map_or (sections_by w file) (segment_place w file) [];
  symbols_at = option_map_or (λ (c : SymtabCommand). c.symoff) (symtab_of w file) 0;
  symbols = option_map_or (symbols_by w file) (symtab_of w file) [];
  strings = option_map_or (strings_by file) (symtab_of w file) [];
}
