use Rattle.std.proofs.Common.{◌≡◌, ◌++◌}
use Rattle.oc_target.proofs.Naming.{wanted_from}
use Rattle.oc_target.proofs.names.wanted_names.Given as goal

-- the names so far, and those that are left
abbrev pub invariant-loop-k : goal.invariant-loop-k
invariant-loop-k l = l.names.items ++ wanted_from l.target l.neutral l.k ≡ wanted_from l.target l.neutral 0
