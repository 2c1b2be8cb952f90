-- The pieces in which the bytes of a section are written (our profile): no piece is too long for an entry, and none cuts a field.
use Rattle.std.specs.{Prelude.{ℕ, zero, suc, ◌+◌, ◌&&◌, Bool, nat_lt, nat_le, if◌then◌else◌, min, List, [], ◌∷◌, length, map, filter, find}, Option.{unwrap_or}}
use Rattle.oc_chains.specs.{declared.field.Field.{Field}, Lists.{list_of}}
use Rattle.oc_neutral.specs.{declared.section.Section.{Section}, declared.reloc.Reloc.{Reloc}, Objects.{Object}}
use Rattle.oc_omf.specs.declared.constants.TheConstants.{MOST_ENTRY_BYTES}

-- the offsets of the fields of the section at a position
abbrev pub offsets_of : Object → ℕ → List ℕ
offsets_of n k = map (λ (x : Field Reloc). x.at) (list_of n.relocs k)

-- a place cuts the field of four bytes at an offset
abbrev pub cuts : ℕ → ℕ → Bool
cuts to at = nat_lt at to && nat_lt to (at + 4)

-- where a piece ends that could end at a place: before the field that this would cut
abbrev pub uncut : List ℕ → ℕ → ℕ
uncut offsets to = unwrap_or (find (cuts to) offsets) to

-- where a piece ends that begins at a place, of a section with fields at these offsets and of that size
abbrev pub piece_end : List ℕ → ℕ → ℕ → ℕ
piece_end offsets size from = uncut offsets (min (from + MOST_ENTRY_BYTES) size)

-- the pieces from a place on, at most n: each where it begins and ends
abbrev pub pieces_upto : ℕ → List ℕ → ℕ → ℕ → List (ℕ × ℕ)
pieces_upto zero offsets size from = []
pieces_upto (suc n) offsets size from =
    if nat_lt from size then (from, piece_end offsets size from) ∷ pieces_upto n offsets size (piece_end offsets size from) else []

-- the pieces of the section at a position: there are no more than bytes; a Zero one has none
unfoldable pub pieces_of : Object → ℕ → Section → List (ℕ × ℕ)
pieces_of n k s = pieces_upto (length s.bytes) (offsets_of n k) (length s.bytes) 0

-- the fields from an offset up to another
abbrev pub fields_between : Object → ℕ → ℕ → ℕ → List (Field Reloc)
fields_between n k from to = filter (λ (x : Field Reloc). nat_le from x.at && nat_lt x.at to) (list_of n.relocs k)
