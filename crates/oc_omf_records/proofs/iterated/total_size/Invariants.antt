use Rattle.std.proofs.Common.{◌≡◌, min, ◌^◌, take}
use Rattle.oc_omf_records.specs.{Blocks.{size_of}, Rows.{rows_of}}
use Rattle.oc_omf_records.proofs.iterated.total_size.Given as goal

abbrev pub invariant-loop-block : goal.invariant-loop-block
invariant-loop-block l = l.total ≡ min (size_of (rows_of (take l.block-index l.blocks))) (2 ^ 32)
