use Rattle.std.proofs.Common.{◌≡◌, drop}
use Rattle.oc_strings.specs.Repeats.{number_after}
use Rattle.oc_strings.proofs.repeats.number_after.Given as goal

-- the bytes that are left follow those of the number
abbrev pub invariant-loop-byte : goal.invariant-loop-byte
invariant-loop-byte l = number_after l.number (drop l.byte-index l.bytes) ≡ number_after l.fn.number l.bytes
