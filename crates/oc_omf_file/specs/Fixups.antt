-- The fields and the fixups of an output (TIS OMF 1.1, "FIXUPP: Fixup Record"; our profile).
use Rattle.std.specs.{Prelude.{ℕ, ◌+◌, ◌-◌, Bool, nat_eq, if◌then◌else◌, List, [], Option, Result, Ok, Err}, Option.{option_map, option_map_or}}
use Rattle.oc_base.specs.{declared.format.Word.TheVariants.{W32}, declared.format.Format.TheVariants.{Omf}}
use Rattle.oc_linking.specs.{declared.terms.Patch.{Patch}, Images.{overlay}}
use Rattle.oc_algebra.specs.{declared.fields.AddendTooWide.{AddendTooWide}, Fields.{to_field_of}}
use Rattle.oc_chains.specs.declared.field.Field.{Field}
use Rattle.oc_neutral.specs.{declared.section.Section.{Section}, declared.reloc.Reloc.{Reloc}, declared.reloc.Target.{Target}, Objects.{Object, reloc_at}}
use Rattle.oc_neutral.specs.{Normal.{at_section}, Omf.Relocs.{FixupFrame, ByTarget, BySelf, fixup_row}, Rows.{Row, shift_of}, Spelling.{written_row}}
use Rattle.oc_neutral.specs.declared.reloc.Target.TheVariants as target
use Rattle.oc_shows.specs.{Manners.{omf_manner}, Seen.{section_place}}
use Rattle.oc_omf.specs.{declared.structures.Method.{Method}, declared.constants.TheConstants.{METHOD_SEGMENT, METHOD_GROUP, METHOD_EXTERNAL, FRAME_OF_TARGET}}
use Rattle.oc_omf.specs.Bytes.{fixup_bytes}
use Rattle.oc_omf_file.specs.Outputs.{symbol_number}

-- a relocation as it is written: against a symbol that is defined here, as one against its section, with its offset added
abbrev pub written_reloc : Object → Reloc → Reloc
written_reloc n r = at_section W32 r (section_place omf_manner n r)

-- the row of a relocation
abbrev pub row_by : Reloc → Option Row
row_by r = written_row Omf r.form r.hint

-- ... the field

-- the number of an answer, 0 where there is none
abbrev pub number_or : Result ℕ AddendTooWide → ℕ
number_or (Ok x) = x
number_or (Err e) = 0

-- the number in the field of a relocation that is written by that row
abbrev pub number_by : Reloc → Row → ℕ
number_by r row = number_or (to_field_of W32 r.form.width (shift_of row) r.addend)

-- the number in the field of a relocation
unfoldable pub field_number : Object → Reloc → ℕ
field_number n r = option_map_or (number_by (written_reloc n r)) (row_by r) 0

-- the field with its number
abbrev pub field_patch : Object → Reloc → Patch
field_patch n r = record { width = r.form.width; check = r.form.check; residue = field_number n r }

-- the fields of the section at a position
abbrev pub field_patches : Object → ℕ → ℕ → Option Patch
field_patches n k at = option_map (field_patch n) (reloc_at n k at)

-- the bytes of the section at a position, with the numbers in its fields
unfoldable pub raw_of : Object → ℕ → Section → List ℕ
raw_of n k s = overlay (field_patches n k) 0 s.bytes

-- ... the fixup

-- a target: a segment, or an external, whose index is the symbol's number and one more
abbrev pub target_method : Object → Target → Method
target_method n (target.Section k) = record { number = METHOD_SEGMENT; index = k + 1 }
target_method n (target.Symbol k) = record { number = METHOD_EXTERNAL; index = symbol_number n k + 1 }

-- the row is that one
abbrev pub is_row : FixupFrame → Row → Bool
is_row framed row = nat_eq row.number (fixup_row framed).number

-- a frame: that of the target, or group 1, which is FLAT; for a self-relative fixup it does not count
abbrev pub frame_method : Row → Method
frame_method row = if is_row ByTarget row then record { number = FRAME_OF_TARGET; index = 0 } else record { number = METHOD_GROUP; index = 1 }

-- the fixup of a relocation that is written by that row, at an offset of its data
abbrev pub fixup_by : Object → ℕ → Reloc → Row → List ℕ
fixup_by n at r row = fixup_bytes (is_row BySelf row) at (frame_method row) (target_method n (written_reloc n r).target)

-- the fixup of a field of data that begin at an offset
abbrev pub field_fixup : Object → ℕ → Field Reloc → List ℕ
field_fixup n from x = option_map_or (fixup_by n (x.at - from) x.item) (row_by x.item) []
