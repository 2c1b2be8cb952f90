-- The entries of the bytes of sections, by their fixups (our profile).
use Rattle.std.specs.Prelude.{◌≡◌, ℕ, ◌+◌, ◌^◌, ◌<◌, ◌≤◌, nat_eq, nat_lt, if◌then◌else◌, List, [], ◌∷◌, length, map, filter, flat_map, slice_get, slice_index_or, Some}
use Rattle.std.specs.List.{enumerate_from}
use Rattle.oc_neutral.specs.declared.section.Section.{Section}
use Rattle.oc_omf_file.specs.Pieces.{pieces_upto}
use Rattle.oc_omf_write.specs.{declared.entries.Entry.{Entry}, declared.fixups.Fixup.{Fixup}, Written.{between}}
use Rattle.oc_omf_write.specs.declared.entries.Entry.TheVariants as entry

-- where the fields of fixups lie
abbrev pub places_of : List Fixup → List ℕ
places_of fixups = map (λ (f : Fixup). f.at) fixups

-- those that lie below an offset
abbrev pub below : ℕ → List Fixup → List Fixup
below to fixups = filter (λ (f : Fixup). nat_lt f.at to) fixups

-- fields of four bytes lie in order from a place on, and end at another or before it
abbrev pub FollowWithin : ℕ → ℕ → List Fixup → Type 0
FollowWithin from size [] = Unit {0}
FollowWithin from size (f ∷ fixups) = (from ≤ f.at) × (f.at + 4 ≤ size) × FollowWithin (f.at + 4) size fixups

-- fields of four bytes lie in order from a place on
abbrev pub Follow : ℕ → List Fixup → Type 0
Follow from [] = Unit {0}
Follow from (f ∷ fixups) = (from ≤ f.at) × Follow (f.at + 4) fixups

abbrev pub AreInOrder : List Fixup → Type 0
AreInOrder fixups = Follow 0 fixups

-- the entries of a piece of section k
abbrev pub piece_entries : ℕ → List Fixup → ℕ × ℕ → List Entry
piece_entries k fixups x = entry.Data k x.0 x.1 ∷ (if nat_eq (length (between x.0 x.1 fixups)) 0 then [] else entry.Fixups k x.0 x.1 ∷ [])

-- the entries of a section of that size
abbrev pub section_entries : ℕ → List Fixup → ℕ → List Entry
section_entries k fixups size = flat_map (piece_entries k fixups) (pieces_upto size (places_of fixups) size 0)

-- the fixups of section k
abbrev pub fixups_at : List (List Fixup) → ℕ → List Fixup
fixups_at fixups k = slice_index_or fixups k []

-- the entries of all sections
abbrev pub data_entries : List (List Fixup) → List Section → List Entry
data_entries fixups sections = flat_map (λ (x : ℕ × Section). section_entries x.0 (fixups_at fixups x.0) (length x.1.bytes)) (enumerate_from 0 sections)

-- the fixups of each section lie in it, in order
pub record AreInSections (sections : List Section) (fixups : List (List Fixup)) : Type 0 where
  pub counted : length fixups ≡ length sections
  pub small : (k : ℕ) (s : Section) → slice_get sections k ≡ Some s → length s.bytes < 2 ^ 31
  pub each : (k : ℕ) (s : Section) → slice_get sections k ≡ Some s → FollowWithin 0 (length s.bytes) (fixups_at fixups k)
