-- What a copy of content bytes is (TIS OMF 1.1, "LIDATA: Logical Iterated Data Record").
use Rattle.std.specs.{Prelude.{ℕ, ◌≡◌, ◌+◌, ◌<◌, ◌≤◌, Bool, List, length, slice_index, All, Some, Ok}, List.{AllPairs}}
use Rattle.oc_omf_records.specs.{Blocks.{Blocks, denotation, size_of, copies_of}, BlockReading.{blocks_of}}

-- the four bytes at a place of some bytes are those at a place of the encoded ones
pub record IsCopy (b : List ℕ) (at : ℕ) (bytes : List ℕ) (place : ℕ) : Type 0 where
  pub inside : place + 4 ≤ length bytes
  pub same : (j : ℕ) → j < 4 → slice_index bytes (place + j) ≡ slice_index b (at + j)

-- the four bytes at each place are none of those at another, and the places ascend
abbrev pub AreApart : List ℕ → Type 0
AreApart places = AllPairs (λ p q. p + 4 ≤ q) places

-- of blocks that are read, each place that is given for four encoded bytes has a copy of them, and the copies are apart
abbrev pub CopiesAreCopies : Type 0
CopiesAreCopies = (wide : Bool) (b : List ℕ) (row : Blocks) (at : ℕ) (places : List ℕ) → blocks_of wide b ≡ Ok row → copies_of row at ≡ Some places
    → All (IsCopy b at (denotation row)) places × AreApart places

-- a row stands for as many bytes as its size
abbrev pub SizesAreLengths : Type 0
SizesAreLengths = (row : Blocks) → length (denotation row) ≡ size_of row
