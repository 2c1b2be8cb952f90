-- What parts of a file hold, as a plan has them (Mach-O reference, "Mach-O Data Structures"; our profile).
use Rattle.std.specs.Prelude.{◌≡◌, ℕ, ◌+◌, ◌*◌, ◌^◌, ◌<◌, List, [], ◌++◌, length, map, replicate, slice_index_or}
use Rattle.oc_base.specs.declared.format.Word.{Word}
use Rattle.oc_neutral.specs.{declared.section.Section.{Section}, Objects.{Object}}
use Rattle.oc_shelf.specs.Writing.Parts.{table_of, HaveSize}
use Rattle.oc_macho.specs.{declared.load_command.TheConstants.{DYSYMTAB_COMMAND_SIZE}, declared.symtab_command.TheConstants.{SYMTAB_COMMAND_SIZE}}
use Rattle.oc_macho.specs.{declared.relocation_info.TheConstants.{RELOCATION_INFO_SIZE}, MachHeader.{address_size, mach_header_size}, Nlist.{nlist_size}}
use Rattle.oc_macho.specs.{SectionHeader.{section_header_size}, SegmentCommand.{segment_command_size}}
use Rattle.oc_macho.specs.Structures.{mach_header_bytes, symtab_bytes, section_bytes, nlist_bytes, relocation_bytes}
use Rattle.oc_macho.specs.Structures.{segment_front, segment_back, dysymtab_front}
use Rattle.oc_macho_file.specs.{Layout.{filled, strings_of, line_names}, Lines.{lines_of}, Symbols.{line_entry}}
use Rattle.oc_macho_write.specs.{declared.bodies.TheConstants.{DYSYMTAB_ZEROS}, declared.bodies.Bodies.{Bodies}, declared.heads.Heads.{Heads}}
use Rattle.oc_macho_write.specs.{declared.parts.Part.{Part}, Relocations.{all_entries}, Strings.{table_with}, Words.{items_at, items_of}}
use Rattle.oc_macho_write.specs.declared.parts.Part.TheVariants as part

-- what a part holds, by these headers, the bytes of sections and these tables
abbrev pub body_by : Word → Heads → List Section → Bodies → Part → List ℕ
body_by w h sections b part.FileHead = mach_header_bytes w h.file
body_by w h sections b part.SegmentHead = segment_front w h.cmdsize h.segment ++ segment_back w h.segment
body_by w h sections b part.SectionHeads = table_of (map (section_bytes w) h.sections.items)
body_by w h sections b part.SymtabHead = symtab_bytes h.symtab
body_by w h sections b part.DysymtabHead = dysymtab_front h.dysymtab ++ replicate DYSYMTAB_ZEROS 0
body_by w h sections b (part.Raw k) = slice_index_or (map (λ (s : Section). s.bytes) sections) k []
body_by w h sections b (part.Relocs k) = table_of (map relocation_bytes (items_at b.relocs.items k))
body_by w h sections b part.SymbolTable = table_of (map (nlist_bytes w) b.nlists.items)
body_by w h sections b part.StringTable = filled (address_size w) (strings_of b.strings.names)

-- it exists
abbrev pub HasBody : List Section → Bodies → Part → Type 0
HasBody sections b part.FileHead = Unit {0}
HasBody sections b part.SegmentHead = Unit {0}
HasBody sections b part.SectionHeads = Unit {0}
HasBody sections b part.SymtabHead = Unit {0}
HasBody sections b part.DysymtabHead = Unit {0}
HasBody sections b (part.Raw k) = k < length sections
HasBody sections b (part.Relocs k) = k < length b.relocs.items
HasBody sections b part.SymbolTable = Unit {0}
HasBody sections b part.StringTable = Unit {0}

-- these are the tables of the object
pub record AreBodies (w : Word) (n : Object) (b : Bodies) : Type 0 where
  pub relocs : items_of b.relocs.items ≡ all_entries w n
  pub nlists : b.nlists.items ≡ map (line_entry w n) (lines_of w n)
  pub strings : b.strings ≡ table_with (line_names w n)

-- a header has its size, and the two counts of symbols together are a number of 32 bits
pub record IsHeaded (w : Word) (h : Heads) : Type 0 where
  pub sized : HaveSize (section_header_size w) (map (section_bytes w) h.sections.items)
  pub counted : h.dysymtab.nlocalsym + h.dysymtab.nextdefsym < 2 ^ 32

-- how many bytes a part has, by counts alone
abbrev pub size_by : Word → List Section → Bodies → Part → ℕ
size_by w sections b part.FileHead = mach_header_size w
size_by w sections b part.SegmentHead = segment_command_size w
size_by w sections b part.SectionHeads = section_header_size w * length sections
size_by w sections b part.SymtabHead = SYMTAB_COMMAND_SIZE
size_by w sections b part.DysymtabHead = DYSYMTAB_COMMAND_SIZE
size_by w sections b (part.Raw k) = length (slice_index_or (map (λ (s : Section). s.bytes) sections) k [])
size_by w sections b (part.Relocs k) = RELOCATION_INFO_SIZE * length (items_at b.relocs.items k)
size_by w sections b part.SymbolTable = nlist_size w * length b.nlists.items
size_by w sections b part.StringTable = length (filled (address_size w) (strings_of b.strings.names))

-- it is a number of 63 bits
abbrev pub IsSmall : Word → List Section → Bodies → Part → Type 0
IsSmall w sections b x = size_by w sections b x < 2 ^ 63
