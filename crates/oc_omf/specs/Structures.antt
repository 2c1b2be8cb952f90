-- The structures in the entries of an object module (TIS OMF 1.1, "Record Formats"): each is read from the contents of its entry, at a place in them.
use Rattle.std.specs.Prelude.{ℕ, ◌+◌, ◌*◌, ◌/◌, ◌%◌, ◌^◌, Bool, false, nat_eq, nat_le, if◌then◌else◌, List, length, drop, Option, Some, None, Result, Ok}
use Rattle.oc_neutral.specs.KindRules.{has}
use Rattle.oc_omf_records.specs.{declared.faults.BlockFault.{BlockFault}, Blocks.{Blocks, none, content}, BlockReading.{blocks_of}}
use Rattle.oc_omf.specs.{declared.structures.Segment.{Segment}, declared.structures.PublicBase.{PublicBase}, declared.structures.Communal.{Communal}}
use Rattle.oc_omf.specs.{declared.structures.Method.{Method}, declared.structures.Datum.{Datum}, declared.structures.DataHead.{DataHead}}
use Rattle.oc_omf.specs.{declared.structures.Subrecord.{Subrecord}, Cursor.{Reading, next, number_read, index_read, name_read, Read, each_read}}
use Rattle.oc_omf.specs.declared.structures.Datum.TheVariants as datum
use Rattle.oc_omf.specs.declared.structures.Subrecord.TheVariants as subrecord

-- how many bytes an offset or a length has
abbrev pub long_size : Bool → ℕ
long_size wide = if wide then 4 else 2

-- the bits of a byte from bit k on, so many
abbrev pub bits : ℕ → ℕ → ℕ → ℕ
bits k count byte = byte / 2 ^ k % 2 ^ count

-- ... names, segments and groups

-- a segment
unfoldable pub segment_read : Bool → List ℕ → ℕ → Reading Segment
segment_read wide b at =
    next (number_read 1 b at) (λ attributes at.
    next (number_read (long_size wide) b at) (λ size at.
    next (index_read b at) (λ name at.
    next (index_read b at) (λ class at.
    next (index_read b at) (λ overlay at.
    Ok (record { wide = wide; attributes = attributes; length = size; name = name; class = class; overlay = overlay }, at))))))

-- a member of a group: a mark and a segment index
unfoldable pub member_read : List ℕ → ℕ → Reading (ℕ × ℕ)
member_read b at = next (number_read 1 b at) (λ mark at. next (index_read b at) (λ segment at. Ok ((mark, segment), at)))

-- a group: the index of its name, and its members
pub record Group : Type 0 where
  pub name : ℕ
  pub members : List (Read (ℕ × ℕ))

-- a group, with all that follows its name
unfoldable pub group_read : List ℕ → ℕ → Reading Group
group_read b at = next (index_read b at) (λ name at. Ok (record { name = name; members = each_read member_read b at }, length b))

-- ... symbols

-- a group index and a segment index
unfoldable pub base_read : List ℕ → ℕ → Reading PublicBase
base_read b at = next (index_read b at) (λ group at. next (index_read b at) (λ segment at. Ok (record { group = group; segment = segment }, at)))

-- a symbol at an offset of a segment, which is of this module alone or not
pub record Public : Type 0 where
  pub local : Bool
  pub name : List ℕ
  pub segment : ℕ
  pub offset : ℕ

-- one of the segment of its entry; its type index has no effect
unfoldable pub public_read : Bool → Bool → ℕ → List ℕ → ℕ → Reading Public
public_read wide local segment b at =
    next (name_read b at) (λ name at.
    next (number_read (long_size wide) b at) (λ offset at.
    next (index_read b at) (λ _ at.
    Ok (record { local = local; name = name; segment = segment; offset = offset }, at))))

-- a symbol that is defined elsewhere, by this module alone or not, or a communal
pub record External : Type 0 where
  pub local : Bool
  pub name : List ℕ
  pub communal : Option Communal

-- one that is no communal; its type index has no effect
unfoldable pub external_read : Bool → List ℕ → ℕ → Reading External
external_read local b at =
    next (name_read b at) (λ name at.
    next (index_read b at) (λ _ at.
    Ok (record { local = local; name = name; communal = None }, at)))

-- how many bytes the length of a communal has after its first byte
abbrev pub communal_width : ℕ → ℕ
communal_width form = if nat_eq form 0x81 then 2 else if nat_eq form 0x84 then 3 else if nat_eq form 0x88 then 4 else 0

-- the length of a communal with its form: its first byte, or the number after it
unfoldable pub communal_length : List ℕ → ℕ → Reading (ℕ × ℕ)
communal_length b at =
    next (number_read 1 b at) (λ form at.
    if nat_eq (communal_width form) 0 then Ok ((form, form), at)
    else next (number_read (communal_width form) b at) (λ size at. Ok ((form, size), at)))

-- a communal, whose length is written as in one of near type; its type index has no effect
unfoldable pub communal_read : List ℕ → ℕ → Reading External
communal_read b at =
    next (name_read b at) (λ name at.
    next (index_read b at) (λ _ at.
    next (number_read 1 b at) (λ kind at.
    next (communal_length b at) (λ size at.
    Ok (record { local = false; name = name; communal = Some (record { kind = kind; form = size.0; length = size.1 }) }, at)))))

-- ... data

-- the segment and the offset of data
unfoldable pub head_read : Bool → List ℕ → ℕ → Reading DataHead
head_read wide b at =
    next (index_read b at) (λ segment at. next (number_read (long_size wide) b at) (λ offset at. Ok (record { segment = segment; offset = offset }, at)))

-- bytes at an offset of a segment: as they are encoded, and in blocks
pub record Piece : Type 0 where
  pub segment : ℕ
  pub offset : ℕ
  pub blocks : Result Blocks BlockFault

-- the blocks of data; those that are not iterated are one content, once
abbrev pub blocks_by : Bool → Bool → List ℕ → Result Blocks BlockFault
blocks_by wide iterated b = if iterated then blocks_of wide b else Ok (content 1 0 b none)

-- data, to the end of their entry
unfoldable pub piece_read : Bool → Bool → List ℕ → ℕ → Reading Piece
piece_read wide iterated b at =
    next (index_read b at) (λ segment at.
    next (number_read (long_size wide) b at) (λ offset at.
    Ok (record { segment = segment; offset = offset; blocks = blocks_by wide iterated (drop at b) }, length b)))

-- ... threads and fixups

-- a method with the index that follows for the methods 0, 1 and 2
unfoldable pub method_read : ℕ → List ℕ → ℕ → Reading Method
method_read number b at =
    if nat_le number 2 then next (index_read b at) (λ index at. Ok (record { number = number; index = index }, at))
    else Ok (record { number = number; index = 0 }, at)

-- a thread by its first byte; of the method of a target two bits count
unfoldable pub thread_read : ℕ → List ℕ → ℕ → Reading Subrecord
thread_read first b at =
    next (method_read (if has first 0x40 then bits 2 3 first else bits 2 2 first) b at) (λ method at.
    Ok (subrecord.Thread (record { frame = has first 0x40; number = bits 0 2 first; method = method }), at))

-- the frame of a fixup by its fix byte
unfoldable pub frame_read : ℕ → List ℕ → ℕ → Reading Datum
frame_read fix b at =
    if has fix 0x80 then Ok (datum.Thread (bits 4 3 fix), at) else next (method_read (bits 4 3 fix) b at) (λ method at. Ok (datum.Explicit method, at))

-- and its target, whose index follows for each method
unfoldable pub target_read : ℕ → List ℕ → ℕ → Reading Datum
target_read fix b at =
    if has fix 8 then Ok (datum.Thread (bits 0 2 fix), at)
    else next (index_read b at) (λ index at. Ok (datum.Explicit (record { number = bits 0 2 fix; index = index }), at))

-- and its displacement
unfoldable pub displacement_read : Bool → ℕ → List ℕ → ℕ → Reading ℕ
displacement_read wide fix b at = if has fix 4 then Ok (0, at) else number_read (long_size wide) b at

-- a fixup by its first byte
unfoldable pub fixup_read : Bool → ℕ → List ℕ → ℕ → Reading Subrecord
fixup_read wide first b at =
    next (number_read 1 b at) (λ low at.
    next (number_read 1 b at) (λ fix at.
    next (frame_read fix b at) (λ frame at.
    next (target_read fix b at) (λ target at.
    next (displacement_read wide fix b at) (λ displacement at.
    Ok (
      subrecord.Fixup (record {
        segment_relative = has first 0x40;
        location = bits 2 4 first;
        offset = bits 0 2 first * 256 + low;
        frame = frame;
        target = target;
        displacement = displacement;
      }),
      at,
    ))))))

-- a thread or a fixup: of a fixup the top bit is set
unfoldable pub subrecord_read : Bool → List ℕ → ℕ → Reading Subrecord
subrecord_read wide b at = next (number_read 1 b at) (λ first at. if has first 0x80 then fixup_read wide first b at else thread_read first b at)
