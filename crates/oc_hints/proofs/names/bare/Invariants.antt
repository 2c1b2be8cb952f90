use Rattle.std.proofs.Common.{◌≡◌, drop}
use Rattle.oc_hints.specs.Names.{bare}
use Rattle.oc_hints.proofs.names.bare.Given as goal

-- all bytes so far are underscores
abbrev pub invariant-loop-at : goal.invariant-loop-at
invariant-loop-at l = bare (drop l.at l.name) ≡ bare l.name
