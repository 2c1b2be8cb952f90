use Rattle.std.proofs.Common.{◌≡◌, ◌+◌, ◌-◌, ◌*◌, ◌≤◌, length, true}
use Rattle.oc_omf_records.specs.{BlockReading.{in_front, block_at, row_at}, Rows.{rows_of, are_sized}}
use Rattle.oc_omf_records.proofs.reading.+reading.Given as goal

-- a row is read one block at a time, each one level further down
abbrev pub decreases-read_block : goal.decreases-read_block
decreases-read_block l = 2 * l.levels

abbrev pub decreases-read_row : goal.decreases-read_row
decreases-read_row l = 2 * l.levels + 1

-- what was read, and behind it what is left to be read, is the row
abbrev pub invariant-read_row-loop-read : goal.invariant-read_row-loop-read
invariant-read_row-loop-read l =
    let block = block_at l.wide l.view l.levels in
    record {
      row : in_front (rows_of l.blocks.items) (row_at block (l.many - l._read) l.place) ≡ row_at block l.many l.at;
      sized : are_sized l.blocks.items ≡ true;
      forward : l.at ≤ l.place;
      inside : l.place ≤ length l.view;
    }
