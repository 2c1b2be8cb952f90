use Rattle.std.proofs.Common.{◌≡◌, ◌-◌, ◌^◌, eqb}
use Rattle.oc_linking.specs.Numbers.{first_from}
use Rattle.oc_coff.proofs.alignment.align_field.Given as goal

-- no power so far is the alignment
abbrev pub invariant-loop-n : goal.invariant-loop-n
invariant-loop-n l = first_from (λ k. eqb l.align (2 ^ k)) 0 14 ≡ first_from (λ k. eqb l.align (2 ^ k)) l.n (14 - l.n)
