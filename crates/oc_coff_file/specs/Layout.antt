-- The parts of an output, their sizes and places, from counts alone (our profile).
use Rattle.std.specs.{Prelude.{ℕ, ◌+◌, ◌*◌, Bool, true, false, nat_eq, List, [], ◌∷◌, ◌++◌, length, flat_map}, List.{enumerate_from}}
use Rattle.oc_coff.specs.{declared.form.CoffForm.{CoffForm}, declared.section_header.TheConstants.{SECTION_HEADER_SIZE}}
use Rattle.oc_coff.specs.{declared.relocation.TheConstants.{RELOCATION_SIZE}, Forms.{format_of, header_size, shape_of, symbol_size}, Flags.{with_count}}
use Rattle.oc_base.specs.Strings.{table_text}
use Rattle.oc_neutral.specs.{declared.section.Section.{Section}, Objects.{Object}, declared.coff.TheConstants.{STRINGS_HEAD}}
use Rattle.oc_target.specs.CoffMeets.{strings_of}
use Rattle.oc_shelf.specs.Writing.Parts.{Laid, laid, behind}
use Rattle.oc_coff_file.specs.{Lines.{entry_count, numbered_lines}, Bodies.{relocs_of}}

-- a part of the file; the bytes and the relocation entries of a section by its position
pub data Part : Type 0 where
  FileHead : Part
  SectionHeads : Part
  Raw : ℕ → Section → Part
  Relocs : ℕ → Section → Part
  SymbolTable : Part
  StringTable : Part

-- the parts of a section
abbrev pub section_parts : ℕ × Section → List Part
section_parts x = Raw x.0 x.1 ∷ Relocs x.0 x.1 ∷ []

-- the parts in their order
unfoldable pub parts_of : Object → List Part
parts_of n = FileHead ∷ SectionHeads ∷ flat_map section_parts (enumerate_from 0 n.sections) ++ SymbolTable ∷ StringTable ∷ []

-- the text of the string table
unfoldable pub text_of : CoffForm → Object → List ℕ
text_of w n = table_text (strings_of (format_of w) n)

-- how many relocation entries the section at a position has
abbrev pub reloc_entries : CoffForm → Object → ℕ → ℕ
reloc_entries w n k = length (with_count (relocs_of w (numbered_lines w n) n k))

-- the size of a part
abbrev pub part_size : CoffForm → Object → Part → ℕ
part_size w n FileHead = header_size (shape_of w)
part_size w n SectionHeads = SECTION_HEADER_SIZE * length n.sections
part_size w n (Raw k s) = length s.bytes
part_size w n (Relocs k s) = RELOCATION_SIZE * reloc_entries w n k
part_size w n SymbolTable = symbol_size (shape_of w) * entry_count w n
part_size w n StringTable = STRINGS_HEAD + length (text_of w n)

-- the parts with their places
abbrev pub laid_parts : CoffForm → Object → List (Laid Part)
laid_parts w n = laid behind (part_size w n) 0 (parts_of n)

-- the part is that of the bytes of the section at position k
abbrev pub is_raw : ℕ → Part → Bool
is_raw k FileHead = false
is_raw k SectionHeads = false
is_raw k (Raw j s) = nat_eq j k
is_raw k (Relocs j s) = false
is_raw k SymbolTable = false
is_raw k StringTable = false

-- the part is that of its relocation entries
abbrev pub is_relocs : ℕ → Part → Bool
is_relocs k FileHead = false
is_relocs k SectionHeads = false
is_relocs k (Raw j s) = false
is_relocs k (Relocs j s) = nat_eq j k
is_relocs k SymbolTable = false
is_relocs k StringTable = false

-- the part is the symbol table
abbrev pub is_symbol_table : Part → Bool
is_symbol_table FileHead = false
is_symbol_table SectionHeads = false
is_symbol_table (Raw j s) = false
is_symbol_table (Relocs j s) = false
is_symbol_table SymbolTable = true
is_symbol_table StringTable = false
