use Rattle.std.proofs.Common.{◌≡◌, ◌-◌, ◌≤◌, length, true}
use Rattle.oc_omf_records.specs.{BlockReading.{in_front, rest_at}, Rows.{rows_of, are_sized}}
use Rattle.oc_omf_records.proofs.block.Block.read.Given as goal

-- what was read, and behind it what is left to be read, is the whole; each block took a byte at least
abbrev pub invariant-loop-at : goal.invariant-loop-at
invariant-loop-at l =
    let size = length l.view in
    record {
      whole : in_front (rows_of l.blocks.items) (rest_at l.wide l.view (size - length l.blocks.items) l.at) ≡ rest_at l.wide l.view size 0;
      sized : are_sized l.blocks.items ≡ true;
      taken : length l.blocks.items ≤ l.at;
      inside : l.at ≤ size;
    }

abbrev pub decreases-loop-at : goal.decreases-loop-at
decreases-loop-at l = length l.view - l.at
