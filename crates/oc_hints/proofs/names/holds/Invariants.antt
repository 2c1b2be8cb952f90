use Rattle.std.proofs.Common.{◌≡◌, drop}
use Rattle.oc_hints.specs.Names.{holds}
use Rattle.oc_hints.proofs.names.holds.Given as goal

-- the text is in the bytes that are left, or in none
abbrev pub invariant-loop-at : goal.invariant-loop-at
invariant-loop-at l = holds l.text (drop l.at l.bytes) ≡ holds l.text l.bytes
