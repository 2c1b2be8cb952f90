-- Iterated data as they are written (TIS OMF 1.1, "LIDATA: Logical Iterated Data Record").
use Rattle.std.specs.Prelude.{ℕ, ◌≡◌, ◌+◌, ◌^◌, ◌<◌, ◌≤◌, max, Bool, List, [], ◌∷◌, ◌++◌, length, All, Ok}
use Rattle.oc_base.specs.Numbers.{bytes_of_number}
use Rattle.oc_omf_records.specs.{Blocks.{Blocks, none, content, nested}, BlockReading.{count_size, most_levels, blocks_of}}

-- how many blocks are in a row
abbrev pub row_length : Blocks → ℕ
row_length none = 0
row_length (content count place bytes rest) = row_length rest + 1
row_length (nested count inside rest) = row_length rest + 1

-- how many levels the blocks of a row have
abbrev pub levels_of : Blocks → ℕ
levels_of none = 0
levels_of (content count place bytes rest) = max 1 (levels_of rest)
levels_of (nested count inside rest) = max (levels_of inside + 1) (levels_of rest)

-- the bytes of a row: of each block the repeat count, the block count, and then the length and the content, or the blocks
abbrev pub encoded : Bool → Blocks → List ℕ
encoded wide none = []
encoded wide (content count place bytes rest) =
    bytes_of_number (count_size wide) count ++ (bytes_of_number 2 0 ++ (length bytes ∷ bytes ++ encoded wide rest))
encoded wide (nested count inside rest) =
    bytes_of_number (count_size wide) count ++ (bytes_of_number 2 (row_length inside) ++ (encoded wide inside ++ encoded wide rest))

-- blocks that are read from bytes are written as those bytes, and are nested no deeper than is allowed
abbrev pub ReadingIsWritten : Type 0
ReadingIsWritten = (wide : Bool) (b : List ℕ) (row : Blocks) → All (λ byte. byte < 256) b → blocks_of wide b ≡ Ok row
    → (encoded wide row ≡ b) × (levels_of row ≤ most_levels)

-- a row can be written at a place: its counts and lengths fit their fields, a block of blocks has some, and each content gives the place where it lies
abbrev pub CanBeWritten : Bool → ℕ → Blocks → Type 0
CanBeWritten wide at none = Unit {0}
CanBeWritten wide at (content count place bytes rest) =
    (count < 256 ^ count_size wide) × (length bytes < 256) × (place ≡ at + count_size wide + 3) × CanBeWritten wide (place + length bytes) rest
CanBeWritten wide at (nested count inside rest) =
    let begin = at + count_size wide + 2 in
    (count < 256 ^ count_size wide) × (0 < row_length inside) × (row_length inside < 65536) × CanBeWritten wide begin inside × CanBeWritten wide (begin + length (encoded wide inside)) rest

-- a row that is written, and is nested no deeper than is allowed, is read as it is
abbrev pub WrittenIsRead : Type 0
WrittenIsRead = (wide : Bool) (row : Blocks) → CanBeWritten wide 0 row → levels_of row ≤ most_levels → blocks_of wide (encoded wide row) ≡ Ok row
