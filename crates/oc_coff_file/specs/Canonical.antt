-- The canonical file of an object that is ready for COFF (PE/COFF; our profile).
use Rattle.std.specs.Prelude.{ℕ, ◌+◌, if◌then◌else◌, List, [], ◌∷◌, ◌++◌, length, map, flat_map, decimal, min, Option, ◌&&◌, Bool}
use Rattle.std.specs.{List.{find, list_any, enumerate_from}, Option.{option_and_then, option_map_or}}
use Rattle.oc_coff.specs.declared.form.CoffForm.{CoffForm}
use Rattle.oc_coff.specs.declared.constants.TheConstants.{IMAGE_SYM_CLASS_STATIC, IMAGE_COMDAT_SELECT_ANY, IMAGE_COMDAT_SELECT_ASSOCIATIVE, IMAGE_WEAK_EXTERN_SEARCH_ALIAS, OVERFLOWED_COUNT}
use Rattle.oc_coff.specs.Flags.{machine_of, pointer_to, section_flags, version_of, with_count}
use Rattle.oc_coff.specs.Values.{numbers_by, default_numbers, type_by, class_by, aux_by}
use Rattle.oc_coff.specs.{declared.file_header.FileHeader.{FileHeader}, declared.section_header.SectionHeader.{SectionHeader}}
use Rattle.oc_coff.specs.{declared.symbol.SymbolEntry.{SymbolEntry}, declared.section_aux.SectionAux.{SectionAux}, declared.weak_aux.WeakAux.{WeakAux}}
use Rattle.oc_coff.specs.{declared.relocation.Relocation.{Relocation}, FileHeader.{file_header_bytes}, SectionHeader.{section_header_bytes}}
use Rattle.oc_coff.specs.{SymbolEntry.{symbol_bytes}, SectionAux.{section_aux_bytes}, WeakAux.{weak_aux_bytes}, Relocation.{relocation_bytes}, Names.{padded}}
use Rattle.oc_coff.specs.{declared.form.Shape.{Shape}, Forms.{format_of, shape_of, word_of}}
use Rattle.oc_base.specs.Numbers.{bytes_of_number}
use Rattle.oc_linking.specs.{declared.terms.Value.{Value}, declared.terms.Fallback.{Fallback}, declared.terms.Binding.{Binding}}
use Rattle.oc_linking.specs.declared.terms.Binding.TheVariants.{Local, Global, Undefined, Common, Weak}
use Rattle.oc_linking.specs.declared.terms.Value.TheVariants as value
use Rattle.oc_linking.specs.declared.terms.Fallback.TheVariants as fallback
use Rattle.oc_neutral.specs.{declared.section.Section.{Section}, declared.symbol.Symbol.{Symbol}, Objects.{Object}, Normal.{Place}}
use Rattle.oc_neutral.specs.{KeySymbols.{global_place, is_key_at, is_key_name, lies_in}, Coff.Strings.{is_long, is_tabled, default_name}}
use Rattle.oc_neutral.specs.declared.coff.TheConstants.{STRINGS_HEAD}
use Rattle.oc_target.specs.CoffMeets.{offset_of}
use Rattle.oc_shelf.specs.Writing.Parts.{Laid, joined, place_where}
use Rattle.oc_coff_file.specs.Lines.{Line, SectionLine, LocalLine, DefaultLine, OuterLine, numbered_lines, entry_count, default_number, outer_number}
use Rattle.oc_coff_file.specs.Bodies.{raw_of, relocs_of}
use Rattle.oc_coff_file.specs.Layout.{Part, FileHead, SectionHeads, Raw, Relocs, SymbolTable, StringTable, text_of, laid_parts, is_raw, is_relocs, is_symbol_table}

-- ... names

-- the eight bytes of a symbol's name: the name, or four zeros and its offset in the string table
unfoldable pub symbol_field : CoffForm → Object → List ℕ → List ℕ
symbol_field w n name = if is_long name then bytes_of_number 4 0 ++ bytes_of_number 4 (offset_of (format_of w) n name) else padded name

-- the eight bytes of a section's name: the name, or `/` (47) and its offset in decimal digits
unfoldable pub section_field : CoffForm → Object → List ℕ → List ℕ
section_field w n name = if is_tabled name then padded (47 ∷ decimal (offset_of (format_of w) n name)) else padded name

-- ... groups

-- the number of the section that leads a group: the one with the group's key symbol
unfoldable pub leader_number : Object → ℕ → ℕ
leader_number n g =
    option_map_or (λ (place : Place). place.0 + 1) (option_and_then (λ (s : Symbol). global_place s.binding) (find (λ (s : Symbol). lies_in n g s && is_key_name n s.name g) n.symbols)) 0

-- the section at a position leads its group
abbrev pub leads : Object → ℕ → Bool
leads n k = list_any (is_key_at n k) n.symbols

-- which copies of the section at a position are kept, where it is in a group: any of its leader's, and else that of the leader
abbrev pub selection_of : Object → ℕ → Option ℕ → ℕ
selection_of n k group = option_map_or (λ g. if leads n k then IMAGE_COMDAT_SELECT_ANY else IMAGE_COMDAT_SELECT_ASSOCIATIVE) group 0

-- the number of the section with which it is kept, where that is another one
abbrev pub kept_with : Object → ℕ → Option ℕ → ℕ
kept_with n k group = option_map_or (λ g. if leads n k then 0 else leader_number n g) group 0

-- ... sections

-- the section header
abbrev pub section_header : CoffForm → Object → Section → List Relocation → ℕ → ℕ → SectionHeader
section_header w n s relocs raw_at relocs_at = record {
  Name = section_field w n s.name;
  VirtualSize = 0;
  VirtualAddress = 0;
  SizeOfRawData = s.size;
  PointerToRawData = pointer_to raw_at (length s.bytes);
  PointerToRelocations = pointer_to relocs_at (length relocs);
  PointerToLinenumbers = 0;
  NumberOfRelocations = min (length relocs) OVERFLOWED_COUNT;
  NumberOfLinenumbers = 0;
  Characteristics = section_flags s relocs;
}

-- the header of the section at a position
unfoldable pub header_at : CoffForm → Object → ℕ × Section → SectionHeader
header_at w n x =
    section_header w n x.1 (relocs_of w (numbered_lines w n) n x.0) (place_where (is_raw x.0) (laid_parts w n)) (place_where (is_relocs x.0) (laid_parts w n))

-- the section headers
abbrev pub headers_of : CoffForm → Object → List SectionHeader
headers_of w n = map (header_at w n) (enumerate_from 0 n.sections)

-- ... symbols

-- an entry
abbrev pub entry : List ℕ → ℕ × ℕ → ℕ → ℕ → ℕ → SymbolEntry
entry field numbers type class auxiliary = record {
  Name = field;
  Value = numbers.0;
  SectionNumber = numbers.1;
  «Type» = type;
  StorageClass = class;
  NumberOfAuxSymbols = auxiliary;
}

-- the entry of a line
abbrev pub line_entry : CoffForm → Object → Line → SymbolEntry
line_entry w n (SectionLine k s) = entry (symbol_field w n s.name) (0, k + 1) 0 IMAGE_SYM_CLASS_STATIC 1
line_entry w n (LocalLine k s) = entry (symbol_field w n s.name) (numbers_by s.binding) (type_by s.mark) IMAGE_SYM_CLASS_STATIC 0
line_entry w n (DefaultLine k s) = entry (symbol_field w n (default_name s.name)) (default_numbers s.binding) 0 IMAGE_SYM_CLASS_STATIC 0
line_entry w n (OuterLine k s) = entry (symbol_field w n s.name) (numbers_by s.binding) (type_by s.mark) (class_by s.binding) (aux_by s.binding)

-- the auxiliary entry of a section's symbol
abbrev pub section_aux : CoffForm → Object → ℕ → Section → SectionAux
section_aux w n k s = record {
  Length = s.size;
  NumberOfRelocations = min (length (relocs_of w (numbered_lines w n) n k)) OVERFLOWED_COUNT;
  NumberOfLinenumbers = 0;
  CheckSum = 0;
  Number = kept_with n k s.group;
  Selection = selection_of n k s.group;
}

-- the number of the symbol that a fallback of the symbol at position k tags: the symbol that it names, or the default
abbrev pub tag_of : List (Laid Line) → ℕ → Fallback → ℕ
tag_of lines k (fallback.Place s offset) = default_number lines k
tag_of lines k fallback.Zero = default_number lines k
tag_of lines k (fallback.Name j) = outer_number lines j

-- the auxiliary entry of a weak external
abbrev pub weak_aux : List (Laid Line) → ℕ → Fallback → WeakAux
weak_aux lines k f = record { TagIndex = tag_of lines k f; Characteristics = IMAGE_WEAK_EXTERN_SEARCH_ALIAS }

-- the auxiliary entries of a symbol that is not Local
abbrev pub outer_aux : Shape → List (Laid Line) → ℕ → Binding → List (List ℕ)
outer_aux shape lines k (Local v) = []
outer_aux shape lines k (Global v) = []
outer_aux shape lines k Undefined = []
outer_aux shape lines k (Common size align) = []
outer_aux shape lines k (Weak f) = weak_aux_bytes shape (weak_aux lines k f) ∷ []

-- the auxiliary entries of a line
abbrev pub line_aux : CoffForm → Object → Line → List (List ℕ)
line_aux w n (SectionLine k s) = section_aux_bytes (shape_of w) (section_aux w n k s) ∷ []
line_aux w n (LocalLine k s) = []
line_aux w n (DefaultLine k s) = []
line_aux w n (OuterLine k s) = outer_aux (shape_of w) (numbered_lines w n) k s.binding

-- the entries of a line
unfoldable pub line_rows : CoffForm → Object → Line → List (List ℕ)
line_rows w n line = symbol_bytes (shape_of w) (line_entry w n line) ∷ line_aux w n line

-- the entries of the symbol table
abbrev pub entry_rows : CoffForm → Object → List (List ℕ)
entry_rows w n = flat_map (λ (l : Laid Line). line_rows w n l.part) (numbered_lines w n)

-- ... the file

-- the file header
unfoldable pub file_header : CoffForm → Object → FileHeader
file_header w n = record {
  Machine = machine_of (word_of w);
  NumberOfSections = length n.sections;
  TimeDateStamp = 0;
  PointerToSymbolTable = place_where is_symbol_table (laid_parts w n);
  NumberOfSymbols = entry_count w n;
  SizeOfOptionalHeader = 0;
  Characteristics = 0;
  Version = version_of (shape_of w);
}

-- the string table
abbrev pub string_table : CoffForm → Object → List ℕ
string_table w n = bytes_of_number STRINGS_HEAD (STRINGS_HEAD + length (text_of w n)) ++ text_of w n

-- the bytes of a part
unfoldable pub part_bytes : CoffForm → Object → Part → List ℕ
part_bytes w n FileHead = file_header_bytes (shape_of w) (file_header w n)
part_bytes w n SectionHeads = flat_map section_header_bytes (headers_of w n)
part_bytes w n (Raw k s) = raw_of w n k s
part_bytes w n (Relocs k s) = flat_map relocation_bytes (with_count (relocs_of w (numbered_lines w n) n k))
part_bytes w n SymbolTable = flat_map (λ (row : List ℕ). row) (entry_rows w n)
part_bytes w n StringTable = string_table w n

-- the canonical file
unfoldable pub coff_file : CoffForm → Object → List ℕ
coff_file w n = joined (part_bytes w n) 0 (laid_parts w n)
