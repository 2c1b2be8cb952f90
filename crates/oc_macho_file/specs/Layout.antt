-- The parts of an output, their sizes and places, from counts alone (our profile).
use Rattle.std.specs.{Prelude.{ℕ, ◌+◌, ◌-◌, ◌*◌, Bool, true, false, nat_eq, if◌then◌else◌, List, [], ◌∷◌, ◌++◌, length, map, replicate}, List.{enumerate_from}}
use Rattle.std.specs.Option.{unwrap_or}
use Rattle.oc_base.specs.{declared.format.Word.{Word}, Strings.{table_text, table_place}}
use Rattle.oc_neutral.specs.{declared.section.Section.{Section}, Objects.{Object}}
use Rattle.oc_shelf.specs.Writing.Parts.{Laid, laid, aligned, place_where}
use Rattle.oc_macho.specs.{declared.load_command.TheConstants.{DYSYMTAB_COMMAND_SIZE}, declared.symtab_command.TheConstants.{SYMTAB_COMMAND_SIZE}}
use Rattle.oc_macho.specs.{declared.relocation_info.TheConstants.{RELOCATION_INFO_SIZE}, declared.relocation_info.RelocationInfo.{RelocationInfo}}
use Rattle.oc_macho.specs.{MachHeader.{address_size, mach_header_size}, SegmentCommand.{segment_command_size}, SectionHeader.{section_header_size}}
use Rattle.oc_macho.specs.Nlist.{nlist_size}
use Rattle.oc_macho_file.specs.{Addresses.{Numbered, stored_sections}, Lines.{lines_of, numbered_lines, line_name}, Bodies.{entries_of}}

-- a part of the file: the file header, the three load commands, the first with the section headers after it, the bytes and the relocation entries of
-- a section by its position, the symbols, and the strings
pub data Part : Type 0 where
  FileHead : Part
  SegmentHead : Part
  SectionHeads : Part
  SymtabHead : Part
  DysymtabHead : Part
  Raw : ℕ → Section → Part
  Relocs : ℕ → Section → Part
  SymbolTable : Part
  StringTable : Part

abbrev pub raw_part : Numbered → Part
raw_part x = Raw x.0 x.1

abbrev pub relocs_part : Numbered → Part
relocs_part x = Relocs x.0 x.1

-- the parts that are of the whole file, before those of sections and after them
abbrev pub head_parts : List Part
head_parts = FileHead ∷ SegmentHead ∷ SectionHeads ∷ SymtabHead ∷ DysymtabHead ∷ []

abbrev pub table_parts : List Part
table_parts = SymbolTable ∷ StringTable ∷ []

-- the parts in their order
unfoldable pub parts_of : Object → List Part
parts_of n = head_parts ++ (map raw_part (stored_sections n) ++ (map relocs_part (enumerate_from 0 n.sections) ++ table_parts))

-- the size of the segment command with its section headers, and of all commands
abbrev pub segment_length : Word → Object → ℕ
segment_length w n = segment_command_size w + section_header_size w * length n.sections

abbrev pub commands_length : Word → Object → ℕ
commands_length w n = segment_length w n + SYMTAB_COMMAND_SIZE + DYSYMTAB_COMMAND_SIZE

-- where the bytes of the sections begin: address 0 lies there
abbrev pub contents_begin : Word → Object → ℕ
contents_begin w n = mach_header_size w + commands_length w n

-- the relocation entries of the section at a position
abbrev pub relocs_of : Word → Object → ℕ → List RelocationInfo
relocs_of w n k = entries_of w n (numbered_lines w n) k

-- the names that are given to the string table, and where one lies in it
unfoldable pub line_names : Word → Object → List (List ℕ)
line_names w n = map line_name (lines_of w n)

abbrev pub offset_in : List (List ℕ) → List ℕ → ℕ
offset_in names name = unwrap_or (table_place 1 names name) 0

-- the string table: the empty name, the names, and zeros up to a multiple of an address's bytes
abbrev pub strings_of : List (List ℕ) → List ℕ
strings_of names = 0 ∷ table_text names

abbrev pub filled : ℕ → List ℕ → List ℕ
filled unit bytes = bytes ++ replicate (aligned unit (length bytes) - length bytes) 0

unfoldable pub string_table : Word → Object → List ℕ
string_table w n = filled (address_size w) (strings_of (line_names w n))

-- the size of a part
abbrev pub part_size : Word → Object → Part → ℕ
part_size w n FileHead = mach_header_size w
part_size w n SegmentHead = segment_command_size w
part_size w n SectionHeads = section_header_size w * length n.sections
part_size w n SymtabHead = SYMTAB_COMMAND_SIZE
part_size w n DysymtabHead = DYSYMTAB_COMMAND_SIZE
part_size w n (Raw k s) = length s.bytes
part_size w n (Relocs k s) = RELOCATION_INFO_SIZE * length (relocs_of w n k)
part_size w n SymbolTable = nlist_size w * length (lines_of w n)
part_size w n StringTable = length (string_table w n)

-- entries lie at a multiple of an address's bytes, where there are some
abbrev pub entries_align : Word → ℕ → ℕ
entries_align w count = if nat_eq count 0 then 1 else address_size w

-- where a part begins, after a place: the bytes of a section as far after the start of all such bytes as its address is after 0
abbrev pub part_begin : Word → Object → ℕ → Part → ℕ
part_begin w n at FileHead = at
part_begin w n at SegmentHead = at
part_begin w n at SectionHeads = at
part_begin w n at SymtabHead = at
part_begin w n at DysymtabHead = at
part_begin w n at (Raw k s) = contents_begin w n + aligned s.align (at - contents_begin w n)
part_begin w n at (Relocs k s) = aligned (entries_align w (length (relocs_of w n k))) at
part_begin w n at SymbolTable = at
part_begin w n at StringTable = at

-- the parts with their places
abbrev pub laid_parts : Word → Object → List (Laid Part)
laid_parts w n = laid (part_begin w n) (part_size w n) 0 (parts_of n)

-- where the part that passes a test lies
abbrev pub part_where : Word → Object → (Part → Bool) → ℕ
part_where w n test = place_where test (laid_parts w n)

-- the part has the bytes of the section at position k
abbrev pub is_raw : ℕ → Part → Bool
is_raw k FileHead = false
is_raw k SegmentHead = false
is_raw k SectionHeads = false
is_raw k SymtabHead = false
is_raw k DysymtabHead = false
is_raw k (Raw j s) = nat_eq j k
is_raw k (Relocs j s) = false
is_raw k SymbolTable = false
is_raw k StringTable = false

-- it has the relocation entries of that section
abbrev pub is_relocs : ℕ → Part → Bool
is_relocs k FileHead = false
is_relocs k SegmentHead = false
is_relocs k SectionHeads = false
is_relocs k SymtabHead = false
is_relocs k DysymtabHead = false
is_relocs k (Raw j s) = false
is_relocs k (Relocs j s) = nat_eq j k
is_relocs k SymbolTable = false
is_relocs k StringTable = false

-- it has the symbols
abbrev pub is_symbol_table : Part → Bool
is_symbol_table FileHead = false
is_symbol_table SegmentHead = false
is_symbol_table SectionHeads = false
is_symbol_table SymtabHead = false
is_symbol_table DysymtabHead = false
is_symbol_table (Raw j s) = false
is_symbol_table (Relocs j s) = false
is_symbol_table SymbolTable = true
is_symbol_table StringTable = false

-- it has the strings
abbrev pub is_string_table : Part → Bool
is_string_table FileHead = false
is_string_table SegmentHead = false
is_string_table SectionHeads = false
is_string_table SymtabHead = false
is_string_table DysymtabHead = false
is_string_table (Raw j s) = false
is_string_table (Relocs j s) = false
is_string_table SymbolTable = false
is_string_table StringTable = true
