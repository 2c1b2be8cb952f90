use Rattle.std.proofs.Common.{◌≡◌, map}
use Rattle.std.specs.Prelude.{take}
use Rattle.oc_neutral.specs.{declared.group.Group.{Group}, KindRules.{has_nul}}
use Rattle.oc_target.proofs.keys.cut_keys.Given as goal

-- the keys before are told of
abbrev pub invariant-loop-k : goal.invariant-loop-k
invariant-loop-k l = l.cut.items ≡ map (λ (g : Group). has_nul g.key) (take l.k l.neutral.groups)
