-- The bytes so far.
use Rattle.std.proofs.Common.{◌≡◌, map}
use Rattle.std.specs.List.{range_with_len}
use Rattle.oc_made.specs.Functions.{code_byte}
use Rattle.oc_made.proofs.code.code_of.Given as goal

abbrev pub invariant-loop-k : goal.invariant-loop-k
invariant-loop-k l = l.bytes.items ≡ map code_byte (range_with_len 0 l.k)
