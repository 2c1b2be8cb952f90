-- What is shown of the data that a reader keeps (our profile).
use Rattle.std.specs.{Prelude.{◌≡◌, ℕ, Bool, List, Option, Some}, Option.{option_map}}
use Rattle.oc_omf.specs.Structures.{Piece, piece_read}
use Rattle.oc_omf_judge.specs.{Defined.{IsSmall, part_of}, declared.last_data.LastData.{LastData}, Lying.{Lying, blocks_kept, lying_at, lying_of}}

-- where they lie, and their blocks
abbrev pub shown : LastData → Lying
shown d = lying_at d.head (blocks_kept d.encoded)

-- they are those of an entry, if that is small enough
abbrev pub IsLast : Bool → Bool → List ℕ → Option LastData → Type 0
IsLast wide iterated b last =
    ((d : Piece) → part_of (piece_read wide iterated b 0) ≡ Some d → IsSmall d) → option_map lying_of (part_of (piece_read wide iterated b 0)) ≡ option_map shown last
