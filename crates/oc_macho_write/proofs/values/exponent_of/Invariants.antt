use Rattle.std.proofs.Common.{◌≡◌, ◌-◌, ◌^◌, eqb}
use Rattle.oc_linking.specs.Numbers.{first_from}
use Rattle.oc_macho_write.proofs.values.exponent_of.Given as goal

-- no power so far is the alignment
abbrev pub invariant-loop-exponent : goal.invariant-loop-exponent
invariant-loop-exponent l = first_from (λ k. eqb l.align (2 ^ k)) 0 16 ≡ first_from (λ k. eqb l.align (2 ^ k)) l.exponent (16 - l.exponent)
