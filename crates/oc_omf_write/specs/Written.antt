-- Fixups of sections as they are written (TIS OMF 1.1, "FIXUPP: Fixup Record").
use Rattle.std.specs.Prelude.{◌≡◌, ℕ, ◌+◌, ◌-◌, ◌<◌, ◌≤◌, ◌&&◌, nat_eq, nat_le, nat_lt, if◌then◌else◌, List, length, map, filter, slice_index_or, Option, Some, ℤ, pos}
use Rattle.std.specs.{List.{enumerate_from}, Option.{option_map_or}}
use Rattle.oc_base.specs.{declared.format.Format.TheVariants.{Omf}, declared.format.Word.TheVariants.{W32}}
use Rattle.oc_linking.specs.declared.terms.Hint.{Hint}
use Rattle.oc_algebra.specs.{declared.form.Form.{Form}, Fields.{to_field_of}}
use Rattle.oc_chains.specs.{declared.field.Field.{Field}, Lists.{list_of}}
use Rattle.oc_neutral.specs.{declared.section.Section.{Section}, declared.reloc.Reloc.{Reloc}, declared.reloc.Target.{Target}, Objects.{Object}}
use Rattle.oc_neutral.specs.{Omf.Relocs.{ByFlat, ByTarget, BySelf, fixup_row}, Rows.{Row, shift_of}, Spelling.{written_row}}
use Rattle.oc_neutral.specs.declared.reloc.Target.TheVariants as target
use Rattle.oc_omf.specs.{declared.structures.Method.{Method}, declared.constants.TheConstants.{METHOD_SEGMENT, METHOD_GROUP, METHOD_EXTERNAL, FRAME_OF_TARGET}}
use Rattle.oc_omf.specs.Bytes.{fixup_bytes}
use Rattle.oc_omf_file.specs.Fixups.{written_reloc, number_or, row_by}
use Rattle.oc_omf_write.specs.declared.fixups.Fixup.{Fixup}

-- ... bytes

-- the bytes of a fixup of data that begin at an offset
abbrev pub fixup_bytes_of : ℕ → Fixup → List ℕ
fixup_bytes_of from f = fixup_bytes f.self_relative (f.at - from) f.frame f.target

-- it lies near the start of such data, and its numbers fit their fields
pub record IsSmallFixup (from : ℕ) (f : Fixup) : Type 0 where
  pub low : from ≤ f.at
  pub near : f.at - from < 1024
  pub frame : f.frame.number < 8
  pub target : f.target.number < 4
  pub frame_index : f.frame.index < 32768
  pub target_index : f.target.index < 32768

-- the fixups from an offset up to another
abbrev pub between : ℕ → ℕ → List Fixup → List Fixup
between from to fixups = filter (λ (f : Fixup). nat_le from f.at && nat_lt f.at to) fixups

-- ... of relocations

-- OMF has a row for a form
pub record HasRow (form : Form) (hint : Hint) : Type 0 where
  pub row : Row
  pub written : written_row Omf form hint ≡ Some row

-- the number of a row, that of an address where there is none
abbrev pub number_in : Option Row → ℕ
number_in row = option_map_or (λ (x : Row). x.number) row (fixup_row ByFlat).number

-- the number of the row of a relocation
abbrev pub row_number : Reloc → ℕ
row_number r = number_in (row_by r)

-- a target, where symbols have these numbers
abbrev pub method_by : List ℕ → Target → Method
method_by numbers (target.Section k) = record { number = METHOD_SEGMENT; index = k + 1 }
method_by numbers (target.Symbol k) = record { number = METHOD_EXTERNAL; index = slice_index_or numbers k 0 + 1 }

-- its index fits
abbrev pub HasIndex : List ℕ → Target → Type 0
HasIndex numbers (target.Section k) = k + 1 < 32768
HasIndex numbers (target.Symbol k) = (k < length numbers) × (slice_index_or numbers k 0 + 1 < 32768)

-- the frame of a row
abbrev pub frame_by : ℕ → Method
frame_by row = if nat_eq row (fixup_row ByTarget).number then record { number = FRAME_OF_TARGET; index = 0 } else record { number = METHOD_GROUP; index = 1 }

-- the fixup of a field, where symbols have these numbers
abbrev pub fixup_with : List ℕ → Object → Field Reloc → Fixup
fixup_with numbers n x = record {
  at = x.at;
  self_relative = nat_eq (row_number x.item) (fixup_row BySelf).number;
  frame = frame_by (row_number x.item);
  target = method_by numbers (written_reloc n x.item).target;
}

-- the fixups of the section at a position
abbrev pub fixups_of : List ℕ → Object → ℕ → List Fixup
fixups_of numbers n k = map (fixup_with numbers n) (list_of n.relocs k)

-- of each section
abbrev pub fixups_in : List ℕ → Object → List (List Fixup)
fixups_in numbers n = map (λ (x : ℕ × Section). fixups_of numbers n x.0) (enumerate_from 0 n.sections)

-- ... numbers

-- what the addend has beyond the field: a self-relative fixup counts from the end of its field
abbrev pub shift_by : ℕ → ℤ
shift_by row = if nat_eq row (fixup_row BySelf).number then shift_of (fixup_row BySelf) else pos 0

-- the number in the field of a relocation that is written by a row
abbrev pub number_with : Reloc → ℕ → ℕ
number_with r row = number_or (to_field_of W32 r.form.width (shift_by row) r.addend)
