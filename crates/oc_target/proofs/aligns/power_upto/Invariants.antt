use Rattle.std.proofs.Common.{◌≡◌, ◌-◌, ◌^◌, nat_le}
use Rattle.oc_linking.specs.Numbers.{first_from}
use Rattle.oc_target.proofs.aligns.power_upto.Given as goal

-- no power so far is not below
abbrev pub invariant-loop-k : goal.invariant-loop-k
invariant-loop-k l = first_from (λ k. nat_le l.align (2 ^ k)) 0 l.most ≡ first_from (λ k. nat_le l.align (2 ^ k)) l.k (l.most - l.k)
