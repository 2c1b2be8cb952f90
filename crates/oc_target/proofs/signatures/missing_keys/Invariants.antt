use Rattle.std.proofs.Common.{◌≡◌, ◌≤◌}
use Rattle.std.specs.{Prelude.{take, not}, List.{count_by}}
use Rattle.oc_neutral.specs.{declared.group.Group.{Group}, Building.{has_name}}
use Rattle.oc_target.proofs.signatures.missing_keys.Given as goal

-- those before are counted
abbrev pub invariant-loop-k : goal.invariant-loop-k
invariant-loop-k l = (l.count ≡ count_by (λ (g : Group). not (has_name l.neutral.symbols g.key)) (take l.k l.neutral.groups)) × (l.count ≤ l.k)
