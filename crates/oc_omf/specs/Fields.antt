-- Relocated fields (TIS OMF 1.1, "FIXUPP"; our profile). The number that is added is in the field, and in the displacement, which has no sign.
use Rattle.std.specs.Prelude.{ℕ, ◌+◌, Bool, ◌&&◌, nat_eq, if◌then◌else◌, ℤ, pos, ◌+ℤ◌, List, length, find, Option, Some, None}
use Rattle.std.specs.Option.{option_map, option_and_then}
use Rattle.oc_base.specs.declared.format.Word.TheVariants.{W32}
use Rattle.oc_linking.specs.{Rules.{Field}, Targets.{Target}}
use Rattle.oc_neutral.specs.{Rows.{Row}, Omf.Relocs.{ByFlat, ByTarget, BySelf, fixup_row}}
use Rattle.oc_shows.specs.RowFields.{row_field, number_in}
use Rattle.oc_omf.specs.{declared.constants.TheConstants.{OFFSET_32}, declared.structures.Method.{Method}, Entries.{Entry}, Sections.{size_at, contents_of}}
use Rattle.oc_omf.specs.{Fixups.{Fixed, subrecords_upto, fixed_in, has_field}, Targets.{Meaning, meaning_of, target_of, is_flat, is_home}}

-- the row of a segment-relative fixup by its frame and its target
abbrev pub framed_row : Meaning → Fixed → Target → Method → Option Row
framed_row m x t frame = if is_flat m frame then Some (fixup_row ByFlat) else if is_home m x.piece frame t then Some (fixup_row ByTarget) else None

-- the row of a fixup by its target; of a self-relative one the frame does not count
abbrev pub row_of : Meaning → Fixed → Target → Option Row
row_of m x t = if x.fixup.segment_relative then option_and_then (framed_row m x t) x.frame else Some (fixup_row BySelf)

-- the target of a fixup
abbrev pub aim_of : Meaning → Fixed → Option Target
aim_of m x = option_and_then (target_of m) x.target

-- the number that is added, at an offset of the section at position s: the field's, sign-extended, and the displacement
abbrev pub added_at : Meaning → ℕ → ℕ → Fixed → Row → ℤ
added_at m s at x row = number_in row (contents_of m.tables (s + 1) (size_at m.tables (s + 1))) at +ℤ pos x.fixup.displacement

-- the field of a fixup at an offset of the section at position s
abbrev pub field_of : Meaning → ℕ → ℕ → Fixed → Target → Row → Field
field_of m s at x t row = row_field W32 row s (added_at m s at x row) s at t

-- where it has a target, and a row for it
unfoldable pub field_by : Meaning → ℕ → ℕ → Fixed → Option Field
field_by m s at x = option_and_then (λ t. option_map (field_of m s at x t) (row_of m x t)) (aim_of m x)

-- a fixup has a field at an offset of the section at position s
abbrev pub relocates : ℕ → ℕ → Fixed → Bool
relocates s at x = has_field x (s + 1) at && nat_eq x.fixup.location OFFSET_32

-- the fixups of a file
abbrev pub fixups_in : List Entry → List Fixed
fixups_in entries = fixed_in (subrecords_upto entries (length entries))

-- the fields of a file, by the position of a section and the offset in it
unfoldable pub fields_in : List Entry → ℕ → ℕ → Option Field
fields_in entries s at = option_and_then (field_by (meaning_of entries) s at) (find (relocates s at) (fixups_in entries))
