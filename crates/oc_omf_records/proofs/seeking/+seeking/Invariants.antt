use Rattle.std.proofs.Common.{◌+◌, ◌*◌, take}
use Rattle.oc_omf_records.specs.{declared.seeking.Sought.TheVariants.{Beyond}, Rows.{row_of, rows_of}, Seeking.{Finds}}
use Rattle.oc_omf_records.proofs.RowLemmas.{blocks_in}
use Rattle.oc_omf_records.proofs.seeking.+seeking.Given as goal

-- what is in a block has fewer blocks
abbrev pub decreases-seek_block : goal.decreases-seek_block
decreases-seek_block l = 2 * blocks_in (row_of l.block.now)

abbrev pub decreases-seek_row : goal.decreases-seek_row
decreases-seek_row l = 2 * blocks_in (rows_of l.blocks.now) + 1

-- the blocks so far do not hold the content
abbrev pub invariant-seek_row-loop-block : goal.invariant-seek_row-loop-block
invariant-seek_row-loop-block l = Finds l.live (rows_of (take l.block-index l.blocks)) l.at (Beyond l.before)
