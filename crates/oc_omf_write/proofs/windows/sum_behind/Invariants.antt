use Rattle.std.proofs.Common.{◌≡◌, ◌+◌, ◌%◌, take, sum}
use Rattle.oc_omf_write.proofs.windows.sum_behind.Given as goal

-- the sum of the bytes so far
abbrev pub invariant-loop-byte : goal.invariant-loop-byte
invariant-loop-byte l = l.sum ≡ (l.start + sum (take l.byte-index l.bytes)) % 256
