-- No smaller power is it.
use Rattle.std.proofs.Common.{◌≡◌, ◌+◌, ◌-◌, ◌^◌, nat_eq}
use Rattle.oc_linking.specs.Numbers.{first_from}
use Rattle.oc_elf_judge.proofs.sections.is_power.Given as goal

abbrev pub invariant-loop-e : goal.invariant-loop-e
invariant-loop-e l = first_from (λ e. nat_eq l.a (2 ^ e)) 0 (l.n + 1) ≡ first_from (λ e. nat_eq l.a (2 ^ e)) l.e (l.n + 1 - l.e)
