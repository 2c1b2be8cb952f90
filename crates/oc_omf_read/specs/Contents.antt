-- The bytes of segments, as data are laid over them (TIS OMF 1.1, "LEDATA" and "LIDATA"; our profile).
use Rattle.std.specs.Prelude.{◌≡◌, ℕ, false, ◌+◌, ◌^◌, ◌<◌, ◌||◌, nat_eq, nat_le, nat_lt, if◌then◌else◌, List, [], ◌∷◌, ◌++◌, length, take, drop, replicate, slice_get, Some, Vec}
use Rattle.std.specs.{Global.{Global}, Option.{option_map_or}}
use Rattle.oc_neutral.specs.Building.{is_zero}
use Rattle.oc_omf_records.specs.Blocks.{Blocks, denotation, size_of}
use Rattle.oc_omf.specs.{declared.structures.Segment.{Segment}, Sections.{blocks_in, contents_of, segment_kind, segment_size}, Tables.{Tables}}
use Rattle.oc_omf.specs.Structures as structures
use Rattle.oc_omf_read.specs.{declared.pieces.FoundPiece.{FoundPiece}, Pieces.{row_in}, Sections.{kind_in}}
use Rattle.oc_omf_judge.specs.declared.defined.Defined.{Defined}

-- bytes with those that blocks stand for in their place, where these fit
abbrev pub laid_by : ℕ → Blocks → List ℕ → List ℕ
laid_by offset row bytes =
    if nat_eq (size_of row) 0 || (nat_le (2 ^ 31) (size_of row) || nat_lt (length bytes) (offset + size_of row)) then bytes
    else take offset bytes ++ (denotation row ++ drop (offset + size_of row) bytes)

-- the bytes of segment k, counted from 0, with some data in their place
abbrev pub laid_piece : FoundPiece → ℕ → List ℕ → List ℕ
laid_piece p k bytes = if nat_eq p.segment (k + 1) then laid_by p.offset (row_in p.data) bytes else bytes

-- with data in the order of the list
abbrev pub laid_all : List structures.Piece → ℕ → List ℕ → List ℕ
laid_all [] k bytes = bytes
laid_all (d ∷ ds) k bytes = laid_all ds k (if nat_eq d.segment (k + 1) then laid_by d.offset (blocks_in d.blocks) bytes else bytes)

-- what the vector at a position holds
abbrev pub items_at : List (Vec ℕ Global) → ℕ → List ℕ
items_at vectors k = option_map_or (λ (v : Vec ℕ Global). v.items) (slice_get vectors k) []

-- each vector has what this makes of the bytes that it had, by its position
abbrev pub AreLaid : (ℕ → List ℕ → List ℕ) → List (Vec ℕ Global) → List (Vec ℕ Global) → Type 0
AreLaid laid old new = (k : ℕ) → k < length old → items_at new k ≡ laid k (items_at old k)

-- the bytes that segment k, counted from 0, has in the object: none where its kind is Zero, and else zeros with data over them
abbrev pub stored : Tables → Tables → ℕ → Segment → List ℕ
stored t upto k s = if is_zero (segment_kind t (k + 1) s) then [] else contents_of upto (k + 1) (segment_size s)

-- and how many
abbrev pub stored_size : Tables → ℕ → Segment → ℕ
stored_size t k s = if is_zero (segment_kind t (k + 1) s) then 0 else segment_size s

-- the vectors have the bytes of the segments, with the data that are defined so far
pub record AreStored (t upto : Tables) (vectors : List (Vec ℕ Global)) : Type 0 where
  pub long : length vectors ≡ length t.segments
  pub each : (k : ℕ) (s : Segment) → slice_get t.segments k ≡ Some s → items_at vectors k ≡ stored t upto k s
  pub sizes : (k : ℕ) (s : Segment) → slice_get t.segments k ≡ Some s → length (items_at vectors k) ≡ stored_size t k s

-- how many bytes segment k, counted from 0, has in the object, by what is known of it
abbrev pub size_in : Defined → ℕ → ℕ
size_in known k = option_map_or (λ (s : Segment). if option_map_or is_zero (kind_in known k) false then 0 else segment_size s) (slice_get known.segments.items k) 0

-- the vector of each segment has that many zeros
abbrev pub AreZeros : Defined → List (Vec ℕ Global) → Type 0
AreZeros known vectors = (k : ℕ) → k < length known.segments.items → items_at vectors k ≡ replicate (size_in known k) 0
