-- Entries and the structures in them as bytes (TIS OMF 1.1, "Record Format" and "Record Formats").
use Rattle.std.specs.Prelude.{ℕ, ◌+◌, ◌-◌, ◌*◌, ◌/◌, ◌%◌, ◌^◌, Bool, nat_lt, nat_le, if◌then◌else◌, List, [], ◌∷◌, ◌++◌, length, sum}
use Rattle.oc_base.specs.Numbers.{bytes_of_number}
use Rattle.oc_omf.specs.declared.constants.TheConstants.{NEAR, MOST_SHORT_LENGTH, OFFSET_32, LENGTH_OF_2, LENGTH_OF_3, LENGTH_OF_4}
use Rattle.oc_omf.specs.{declared.structures.Segment.{Segment}, declared.structures.PublicBase.{PublicBase}, declared.structures.Method.{Method}}

-- ... an entry

-- the odd type of the two that a record has: offsets and lengths have four bytes
abbrev pub wide : ℕ → ℕ
wide type = type + 1

-- the byte that makes the sum of all 0 modulo 256
abbrev pub checksum : List ℕ → ℕ
checksum bytes = (256 - sum bytes % 256) % 256

-- bytes and their checksum
abbrev pub summed : List ℕ → List ℕ
summed bytes = bytes ++ checksum bytes ∷ []

-- an entry of a type with these contents; the length counts the checksum
unfoldable pub entry_bytes : ℕ → List ℕ → List ℕ
entry_bytes type contents = summed (type ∷ bytes_of_number 2 (length contents + 1) ++ contents)

-- ... fields

-- a name: its length and its bytes
abbrev pub name_bytes : List ℕ → List ℕ
name_bytes name = length name ∷ name

-- an index: one byte, or two with the top bit set
abbrev pub index_bytes : ℕ → List ℕ
index_bytes k = if nat_lt k 128 then k ∷ [] else (128 + k / 256) ∷ (k % 256) ∷ []

-- the length of a communal, in its shortest form
unfoldable pub length_bytes : ℕ → List ℕ
length_bytes size =
    if nat_le size MOST_SHORT_LENGTH then size ∷ []
    else if nat_lt size (2 ^ 16) then LENGTH_OF_2 ∷ bytes_of_number 2 size
    else if nat_lt size (2 ^ 24) then LENGTH_OF_3 ∷ bytes_of_number 3 size
    else LENGTH_OF_4 ∷ bytes_of_number 4 size

-- ... structures, where offsets and lengths have four bytes

-- a segment
abbrev pub segment_bytes : Segment → List ℕ
segment_bytes s = s.attributes ∷ bytes_of_number 4 s.length ++ (index_bytes s.name ++ (index_bytes s.class ++ index_bytes s.overlay))

-- an external, without a type
abbrev pub external_bytes : List ℕ → List ℕ
external_bytes name = name_bytes name ++ 0 ∷ []

-- a near communal of a size, without a type
abbrev pub communal_bytes : List ℕ → ℕ → List ℕ
communal_bytes name size = name_bytes name ++ 0 ∷ NEAR ∷ length_bytes size

-- one symbol at an offset of a segment, with where it lies before it, and without a type
abbrev pub public_bytes : PublicBase → List ℕ → ℕ → List ℕ
public_bytes base name offset = index_bytes base.group ++ (index_bytes base.segment ++ (name_bytes name ++ (bytes_of_number 4 offset ++ 0 ∷ [])))

-- bytes at an offset of a segment
abbrev pub data_bytes : ℕ → ℕ → List ℕ → List ℕ
data_bytes segment offset bytes = index_bytes segment ++ (bytes_of_number 4 offset ++ bytes)

-- the first byte of a fixup of a 32-bit offset, self-relative or segment-relative: its top bit, the bit of the latter, and the high bits of where it lies
abbrev pub first_of : Bool → ℕ → ℕ
first_of self at = 2 ^ 7 + (if self then 0 else 2 ^ 6) + OFFSET_32 * 2 ^ 2 + at / 256

-- the fix byte, without threads and without a displacement
abbrev pub fix_of : Method → Method → ℕ
fix_of frame target = frame.number * 2 ^ 4 + 2 ^ 2 + target.number

-- the index of a frame, which the methods 0, 1 and 2 have
abbrev pub frame_bytes : Method → List ℕ
frame_bytes frame = if nat_le frame.number 2 then index_bytes frame.index else []

-- a fixup at an offset of its data
abbrev pub fixup_bytes : Bool → ℕ → Method → Method → List ℕ
fixup_bytes self at frame target = first_of self at ∷ (at % 256) ∷ fix_of frame target ∷ frame_bytes frame ++ index_bytes target.index
