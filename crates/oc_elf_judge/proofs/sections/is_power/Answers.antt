-- A number that is not it is passed.
use Rattle.std.proofs.Common.{◌≡◌, ℕ, ◌+◌, ◌*◌, ◌%◌, ◌<◌, ◌∙◌, ◌^◌, nat_eq, sym, ap, arith}
use Rattle.std.proofs.{Math.Pow.{pow-lt}, Math.Nat.{mod-eq_of_lt}}
use Rattle.std.proofs.lemmas.Bool.{ne_eqb}
use Rattle.oc_linking.proofs.Upto.{first_from_step}
use Rattle.oc_elf_judge.proofs.sections.is_power.Goals as goal

pub loop-e-preserved : goal.loop-e-preserved
loop-e-preserved c = c.loop-e.invariant ∙ first_from_step (λ e. nat_eq c.args.a (2 ^ e)) c.loop-e.e (c.args.n + 1) (ne_eqb c.args.a (2 ^ c.loop-e.e) (λ same.
    let small : 2 ^ c.loop-e.e < 2 ^ 64 = pow-lt {j = 64} (omega arith) in
    let one : 1 * 2 ^ c.loop-e.e ≡ 2 ^ c.loop-e.e = omega arith in
    c.if-a-e.false (same ∙ sym (ap (λ (n : ℕ). n % 2 ^ 64) one ∙ mod-eq_of_lt small)))) c.loop-e-test.true
