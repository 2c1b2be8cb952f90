use Rattle.std.proofs.Common.{◌≡◌, ◌++◌, [], length}
use Rattle.oc_neutral.specs.{HomeNames.{final_names}, Mach.Family.{numbered_name}}
use Rattle.oc_target.proofs.Naming.{wanted_from}
use Rattle.oc_target.proofs.names.final_names.Given as goal

-- the names so far, and those that are left
abbrev pub invariant-loop-k : goal.invariant-loop-k
invariant-loop-k l =
    (length l.names.items ≡ l.k)
    × (l.names.items ++ final_names numbered_name l.names.items (wanted_from l.target l.neutral l.k) ≡ final_names numbered_name [] (wanted_from l.target l.neutral 0))
