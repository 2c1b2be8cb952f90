-- Data of entries, and the segments that they cover (TIS OMF 1.1, "LEDATA" and "LIDATA"; our profile).
use Rattle.std.specs.Prelude.{◌≡◌, List, [], ◌∷◌, Option, Some, None}
use Rattle.oc_omf_records.specs.Blocks.{Blocks, none}
use Rattle.oc_omf.specs.{declared.data.Data.{Data}, Known.{row_of}, Sections.{blocks_in}}
use Rattle.oc_omf.specs.Structures as structures
use Rattle.oc_omf_read.specs.declared.pieces.FoundPiece.{FoundPiece}

-- the blocks of data, none where they cannot be read
abbrev pub row_in : Option Data → Blocks
row_in None = none
row_in (Some data_) = row_of data_

-- data are those that are read
pub record IsPiece (p : FoundPiece) (d : structures.Piece) : Type 0 where
  pub segment : d.segment ≡ p.segment
  pub offset : d.offset ≡ p.offset
  pub row : blocks_in d.blocks ≡ row_in p.data

-- they are all that are read, or there are none
abbrev pub ArePieces : Option FoundPiece → List structures.Piece → Type 0
ArePieces None ds = ds ≡ []
ArePieces (Some p) ds = (d : structures.Piece) × (ds ≡ d ∷ []) × IsPiece p d
