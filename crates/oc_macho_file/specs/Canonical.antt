-- The canonical file of an object that is ready for Mach-O (Mach-O reference; our profile).
use Rattle.std.specs.{Prelude.{ℕ, ◌+◌, nat_eq, if◌then◌else◌, List, [], ◌∷◌, length, map, replicate, flat_map}, List.{enumerate_from}}
use Rattle.oc_base.specs.declared.format.Word.{Word}
use Rattle.oc_neutral.specs.{Mach.Kinds.{segment_of, section_of}, Objects.{Object}}
use Rattle.oc_shelf.specs.{Writing.Packed.{packed}, Writing.Parts.{joined}}
use Rattle.oc_macho.specs.{declared.constants.TheConstants.{MH_OBJECT, LC_DYSYMTAB}, declared.load_command.TheConstants.{DYSYMTAB_COMMAND_SIZE}}
use Rattle.oc_macho.specs.{declared.names.TheConstants.{NAME_SIZE}, declared.mach_header.MachHeader.{MachHeader}}
use Rattle.oc_macho.specs.{declared.section_header.SectionHeader.{SectionHeader}, declared.symtab_command.SymtabCommand.{SymtabCommand}}
use Rattle.oc_macho.specs.{MachHeader.{address_size, cpu_type}, SegmentCommand.{segment_number}}
use Rattle.oc_macho.specs.declared.constants.TheConstants.{COMMAND_COUNT, CPU_SUBTYPE_ALL, VM_PROT_ALL}
use Rattle.oc_macho.specs.Structures.{magic_of, padded, mach_header_bytes, symtab_bytes, section_bytes, nlist_bytes, relocation_bytes}
use Rattle.oc_macho_file.specs.{Addresses.{Numbered, address_of, memory_end, stored_end}, Lines.{Line, inner_lines, defined_lines, undefined_lines, lines_of}}
use Rattle.oc_macho_file.specs.Bodies.{raw_of}
use Rattle.oc_macho_file.specs.Layout.{Part, FileHead, SegmentHead, SectionHeads, SymtabHead, DysymtabHead, Raw, Relocs, SymbolTable, StringTable, segment_length, commands_length, contents_begin, relocs_of, string_table, laid_parts, part_where, is_raw, is_relocs, is_symbol_table, is_string_table}
use Rattle.oc_macho_file.specs.Symbols.{exponent_of, line_entry}

-- the file header, without flags
unfoldable pub file_header : Word → Object → MachHeader
file_header w n = record {
  magic = magic_of w;
  cputype = cpu_type w;
  cpusubtype = CPU_SUBTYPE_ALL;
  filetype = MH_OBJECT;
  ncmds = COMMAND_COUNT;
  sizeofcmds = commands_length w n;
  flags = 0;
}

-- the numbers of the segment command, each after its width; the segment has no name, and begins at address 0
unfoldable pub segment_numbers : Word → Object → List (ℕ × ℕ)
segment_numbers w n =
    (4, segment_number w) ∷ (4, segment_length w n) ∷ (NAME_SIZE, 0) ∷ (address_size w, 0) ∷ (address_size w, memory_end n)
    ∷ (address_size w, contents_begin w n) ∷ (address_size w, stored_end n) ∷ (4, VM_PROT_ALL) ∷ (4, VM_PROT_ALL) ∷ (4, length n.sections) ∷ (4, 0) ∷ []

-- a pointer to entries: 0 where there are none
abbrev pub pointer_to : ℕ → ℕ → ℕ
pointer_to place count = if nat_eq count 0 then 0 else place

-- the header of a section; one without bytes in the file has the offset 0
unfoldable pub section_header : Word → Object → Numbered → SectionHeader
section_header w n x = record {
  sectname = padded (section_of x.1.name);
  segname = padded (segment_of x.1.name);
  addr = address_of n x.0;
  size = x.1.size;
  offset = part_where w n (is_raw x.0);
  align = exponent_of x.1.align;
  reloff = pointer_to (part_where w n (is_relocs x.0)) (length (relocs_of w n x.0));
  nreloc = length (relocs_of w n x.0);
  flags = x.1.tag;
}

-- the headers of the sections
abbrev pub section_headers : Word → Object → List SectionHeader
section_headers w n = map (section_header w n) (enumerate_from 0 n.sections)

-- the command that places symbols and strings
unfoldable pub symtab_command : Word → Object → SymtabCommand
symtab_command w n = record {
  symoff = part_where w n is_symbol_table;
  nsyms = length (lines_of w n);
  stroff = part_where w n is_string_table;
  strsize = length (string_table w n);
}

-- numbers of four bytes
abbrev pub words : List ℕ → List (ℕ × ℕ)
words numbers = map (λ number. (4, number)) numbers

-- the numbers of the command that gives the groups of symbols: where each begins, and how many are in it; twelve words more are zero
unfoldable pub dysymtab_numbers : Word → Object → List (ℕ × ℕ)
dysymtab_numbers w n = words (
    LC_DYSYMTAB ∷ DYSYMTAB_COMMAND_SIZE
    ∷ 0 ∷ length (inner_lines w n)
    ∷ length (inner_lines w n) ∷ length (defined_lines n)
    ∷ (length (inner_lines w n) + length (defined_lines n)) ∷ length (undefined_lines n)
    ∷ replicate 12 0)

-- the bytes of a part
unfoldable pub part_bytes : Word → Object → Part → List ℕ
part_bytes w n FileHead = mach_header_bytes w (file_header w n)
part_bytes w n SegmentHead = packed (segment_numbers w n)
part_bytes w n SectionHeads = flat_map (section_bytes w) (section_headers w n)
part_bytes w n SymtabHead = symtab_bytes (symtab_command w n)
part_bytes w n DysymtabHead = packed (dysymtab_numbers w n)
part_bytes w n (Raw k s) = raw_of w n k s
part_bytes w n (Relocs k s) = flat_map relocation_bytes (relocs_of w n k)
part_bytes w n SymbolTable = flat_map (λ (line : Line). nlist_bytes w (line_entry w n line)) (lines_of w n)
part_bytes w n StringTable = string_table w n

-- the canonical file
unfoldable pub mach_file : Word → Object → List ℕ
mach_file w n = joined (part_bytes w n) 0 (laid_parts w n)
