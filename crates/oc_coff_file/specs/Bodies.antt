-- The bytes and the relocation entries of an output's sections (PE/COFF, "COFF Relocations" and "Section Flags"; our profile).
use Rattle.std.specs.{Prelude.{ℕ, List, map, Option, Result, Ok, Err}, Option.{option_map, option_map_or}}
use Rattle.oc_coff.specs.{declared.form.CoffForm.{CoffForm}, declared.constants.TheConstants.{IMAGE_REL_I386_ABSOLUTE}}
use Rattle.oc_coff.specs.{declared.relocation.Relocation.{Relocation}, Forms.{format_of, word_of}}
use Rattle.oc_linking.specs.{declared.terms.Patch.{Patch}, Images.{overlay}}
use Rattle.oc_algebra.specs.{declared.fields.AddendTooWide.{AddendTooWide}, Fields.{to_field_of}}
use Rattle.oc_chains.specs.{declared.field.Field.{Field}, Lists.{list_of}}
use Rattle.oc_neutral.specs.{declared.section.Section.{Section}, declared.reloc.Reloc.{Reloc}, declared.reloc.Target.{Target}, Objects.{Object, reloc_at}}
use Rattle.oc_neutral.specs.{Rows.{Row, shift_of}, Spelling.{written_row}}
use Rattle.oc_neutral.specs.declared.reloc.Target.TheVariants as target
use Rattle.oc_shelf.specs.Writing.Parts.{Laid}
use Rattle.oc_coff_file.specs.Lines.{Line, section_number, outer_number}

-- the number of an answer, 0 where there is none
abbrev pub number_or : Result ℕ AddendTooWide → ℕ
number_or (Ok n) = n
number_or (Err e) = 0

-- the number in the field of a relocation that is written by that row
abbrev pub number_by : CoffForm → Reloc → Row → ℕ
number_by w r row = number_or (to_field_of (word_of w) r.form.width (shift_of row) r.addend)

-- the number in the field of a relocation
unfoldable pub field_number : CoffForm → Reloc → ℕ
field_number w r = option_map_or (number_by w r) (written_row (format_of w) r.form r.hint) 0

-- the field with its number
abbrev pub field_patch : CoffForm → Reloc → Patch
field_patch w r = record { width = r.form.width; check = r.form.check; residue = field_number w r }

-- the fields of the section at a position
abbrev pub field_patches : CoffForm → Object → ℕ → ℕ → Option Patch
field_patches w n k at = option_map (field_patch w) (reloc_at n k at)

-- its bytes, with the numbers in the fields; a Zero section has none
unfoldable pub raw_of : CoffForm → Object → ℕ → Section → List ℕ
raw_of w n k s = overlay (field_patches w n k) 0 s.bytes

-- the number of a target's symbol
abbrev pub target_number : List (Laid Line) → Target → ℕ
target_number lines (target.Section k) = section_number lines k
target_number lines (target.Symbol k) = outer_number lines k

-- the type of a relocation
unfoldable pub type_of : CoffForm → Reloc → ℕ
type_of w r = option_map_or (λ (row : Row). row.number) (written_row (format_of w) r.form r.hint) IMAGE_REL_I386_ABSOLUTE

-- the entry of a relocation
abbrev pub relocation_of : CoffForm → List (Laid Line) → Field Reloc → Relocation
relocation_of w lines x = record { VirtualAddress = x.at; SymbolTableIndex = target_number lines x.item.target; «Type» = type_of w x.item }

-- the relocations of the section at a position
unfoldable pub relocs_of : CoffForm → List (Laid Line) → Object → ℕ → List Relocation
relocs_of w lines n k = map (relocation_of w lines) (list_of n.relocs k)
