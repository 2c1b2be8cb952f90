use Rattle.std.proofs.Common.{◌≡◌, ◌++◌, take}
use Rattle.oc_omf_records.specs.{Blocks.{denotation}, Rows.{rows_of}}
use Rattle.oc_omf_records.proofs.expanding.+expanding.Given as goal

-- what was there, and behind it what the blocks so far stand for
abbrev pub invariant-expand_row-loop-block : goal.invariant-expand_row-loop-block
invariant-expand_row-loop-block l = l.out.items ≡ l.initial.out.items ++ denotation (rows_of (take l.block-index l.blocks))
