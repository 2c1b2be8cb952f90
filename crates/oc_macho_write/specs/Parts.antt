-- The parts of the file by positions (our profile).
use Rattle.std.specs.{Prelude.{◌≡◌, ◌++◌, List, slice_get, Option, Some, map}, Option.{option_map}}
use Rattle.oc_neutral.specs.Objects.{Object}
use Rattle.oc_macho_file.specs.Layout as layout
use Rattle.oc_macho_write.specs.declared.parts.Part.{Part}
use Rattle.oc_macho_write.specs.declared.parts.Part.TheVariants as part

-- the part with the section at its position, if that exists
abbrev pub part_in : Object → Part → Option layout.Part
part_in n part.FileHead = Some layout.FileHead
part_in n part.SegmentHead = Some layout.SegmentHead
part_in n part.SectionHeads = Some layout.SectionHeads
part_in n part.SymtabHead = Some layout.SymtabHead
part_in n part.DysymtabHead = Some layout.DysymtabHead
part_in n (part.Raw k) = option_map (layout.Raw k) (slice_get n.sections k)
part_in n (part.Relocs k) = option_map (layout.Relocs k) (slice_get n.sections k)
part_in n part.SymbolTable = Some layout.SymbolTable
part_in n part.StringTable = Some layout.StringTable

-- each of these
abbrev pub parts_in : Object → List Part → List (Option layout.Part)
parts_in n these = map (part_in n) these

-- these parts of the object's file were added
abbrev pub AreAdded : Object → List layout.Part → List Part → List Part → Type 0
AreAdded n these old new = parts_in n new ≡ parts_in n old ++ map Some these

-- these are the parts of the object's file, all there
abbrev pub AreParts : Object → List Part → Type 0
AreParts n these = parts_in n these ≡ map Some (layout.parts_of n)
