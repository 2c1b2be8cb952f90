-- Reading iterated data (TIS OMF 1.1, "LIDATA: Logical Iterated Data Record"): a block is a repeat count, a block count
-- of two bytes, and then a length byte with that many bytes where the block count is 0, else that many blocks.
use Rattle.std.specs.Prelude.{ℕ, zero, suc, ◌+◌, Bool, not, ◌&&◌, nat_eq, nat_lt, nat_le, if◌then◌else◌, List, length, slice_range, Result, Ok, Err}
use Rattle.oc_base.specs.Numbers.{number_at}
use Rattle.oc_omf_records.specs.{declared.faults.BlockFault.{BlockFault}, declared.faults.BlockFault.TheVariants.{BadBlock, TooDeep}}
use Rattle.oc_omf_records.specs.Blocks.{Blocks, none, content, nested, append}

-- the blocks that are read and the place after them, or what is met first that is at fault
abbrev pub Reading : Type 0
Reading = Result (Blocks × ℕ) BlockFault

-- a row of blocks, and after it what is read
abbrev pub in_front : Blocks → Reading → Reading
in_front row (Ok r) = Ok (append row r.0, r.1)
in_front row (Err fault) = Err fault

-- what is read, and after it what is read from the place where it ends
abbrev pub followed : Reading → (ℕ → Reading) → Reading
followed (Ok r) next = in_front r.0 (next r.1)
followed (Err fault) next = Err fault

-- so many blocks from a place on, where `block` reads the one at a place
abbrev pub row_at : (ℕ → Reading) → ℕ → ℕ → Reading
row_at block zero at = Ok (none, at)
row_at block (suc n) at = followed (block at) (row_at block n)

-- a row as the one block that repeats it
abbrev pub repeats_row : ℕ → Reading → Reading
repeats_row count (Ok r) = Ok (nested count r.0 none, r.1)
repeats_row count (Err fault) = Err fault

-- the place after the length byte at a place and that many bytes
abbrev pub after_content : List ℕ → ℕ → ℕ
after_content b at = at + 1 + number_at b at 1

-- a block with this repeat count, whose length byte and content lie at a place
abbrev pub content_at : List ℕ → ℕ → ℕ → Reading
content_at b count at =
    if nat_le (at + 1) (length b) && nat_le (after_content b at) (length b)
    then Ok (content count (at + 1) (slice_range b (at + 1) (after_content b at)) none, after_content b at)
    else Err BadBlock

-- how many bytes a repeat count has
abbrev pub count_size : Bool → ℕ
count_size wide = if wide then 4 else 2

-- how deep blocks may be nested, which is our profile's limit
abbrev pub most_levels : ℕ
most_levels = 32

module _ (wide : Bool) (b : List ℕ) where
  -- the place after the two counts of a block
  abbrev pub after_counts : ℕ → ℕ
  after_counts at = at + count_size wide + 2

  -- how often the block at a place repeats what is in it
  abbrev pub repeat_count : ℕ → ℕ
  repeat_count at = number_at b at (count_size wide)

  -- how many blocks are in the block at a place
  abbrev pub block_count : ℕ → ℕ
  block_count at = number_at b (at + count_size wide) 2

  -- the block at a place, from where blocks may go so many levels down; one below these is met before its counts are read
  abbrev pub block_at : ℕ → ℕ → Reading
  block_at zero at = Err TooDeep
  block_at (suc levels) at =
      if not (nat_le (after_counts at) (length b)) then Err BadBlock
      else if nat_eq (block_count at) 0 then content_at b (repeat_count at) (after_counts at)
      else repeats_row (repeat_count at) (row_at (block_at levels) (block_count at) (after_counts at))

  -- the blocks that follow one another from a place to the end, at most so many
  abbrev pub rest_at : ℕ → ℕ → Reading
  rest_at zero at = Ok (none, at)
  rest_at (suc n) at = if nat_lt at (length b) then followed (block_at most_levels at) (rest_at n) else Ok (none, at)

  -- the blocks of the whole, or what is met first that is at fault; there are no more blocks than bytes
  abbrev pub blocks_of : Result Blocks BlockFault
  blocks_of = without_place (rest_at (length b) 0)
    where
      without_place : Reading → Result Blocks BlockFault
      without_place (Ok r) = Ok r.0
      without_place (Err fault) = Err fault
