use Rattle.std.proofs.Common.{◌≡◌, ◌++◌}
use Rattle.std.specs.Prelude.{drop}
use Rattle.oc_strings.specs.Tables.{texts}
use Rattle.oc_target.specs.Sorting.{nonlocal_names}
use Rattle.oc_target.proofs.signatures.nonlocal_names.Given as goal

-- the names so far, and those that are left
abbrev pub invariant-loop-k : goal.invariant-loop-k
invariant-loop-k l = texts l.names.items ++ nonlocal_names (drop l.k l.neutral.symbols) ≡ nonlocal_names l.neutral.symbols
