-- The bytes so far stand at the end of the line.
use Rattle.std.proofs.Common.{◌≡◌, ◌++◌, take}
use Rattle.oc_batch.proofs.job_line.put.Given as goal

abbrev pub invariant-loop-byte : goal.invariant-loop-byte
invariant-loop-byte l = l.line.items ≡ l.initial.line.items ++ take l.byte-index l.byte-items
