-- The first power of two that is met is the least.
use Rattle.std.proofs.Common.{◌≡◌, ℕ, suc, ◌+◌, ◌-◌, ◌*◌, ◌<◌, ◌%◌, ◌^◌, Bool, false, cond, eqb, Some, sym, ◌∙◌, ap, arith, eq-eqb}
use Rattle.std.proofs.lemmas.Bool.{ne_eqb}
use Rattle.std.proofs.{Math.Pow.{pow-lt}, Math.Nat.{mod-eq_of_lt}}
use Rattle.std.specs.Option.{unwrap_or}
use Rattle.oc_linking.specs.Numbers.{first_from}
use Rattle.oc_linking.proofs.Upto.{first_from_step}
use Rattle.oc_coff.specs.Flags.{align_field}
use Rattle.oc_coff.proofs.alignment.align_field.Goals as goal

power : (n : ℕ) → n < 14 → (1 * 2 ^ n) % 2 ^ 32 ≡ 2 ^ n
power n l =
    let small : 2 ^ n < 2 ^ 32 = pow-lt {j = 32} (omega (arith, l)) in
    let one : 1 * 2 ^ n ≡ 2 ^ n = omega arith in
    ap (λ (k : ℕ). k % 2 ^ 32) one ∙ mod-eq_of_lt small

pub returns-then-align-n : goal.returns-then-align-n
unfolding align_field
returns-then-align-n c =
    let n : ℕ = c.loop-n.n in
    let test : ℕ → Bool = λ k. eqb c.args.align (2 ^ k) in
    let is : c.args.align ≡ 2 ^ n = c.if-align-n.true ∙ power n c.loop-n-test.true in
    let some : 14 - n ≡ suc (14 - (n + 1)) = omega (arith, c.loop-n-test.true) in
    let here : first_from test n (14 - n) ≡ Some n = ap (first_from test n) some ∙ ap (λ b. cond b (Some n) (first_from test (n + 1) (14 - (n + 1)))) (eq-eqb c.args.align (2 ^ n) is) in
    sym (ap (λ o. unwrap_or o 0 + 1) (c.loop-n.invariant ∙ here))

pub loop-n-preserved : goal.loop-n-preserved
loop-n-preserved c =
    let n : ℕ = c.loop-n.n in
    let fails : eqb c.args.align (2 ^ n) ≡ false = ne_eqb c.args.align (2 ^ n) (λ e. c.if-align-n.false (e ∙ sym (power n c.loop-n-test.true))) in
    c.loop-n.invariant ∙ first_from_step (λ k. eqb c.args.align (2 ^ k)) n 14 fails c.loop-n-test.true

pub returns : goal.returns
unfolding align_field
returns c =
    let n : ℕ = c.loop-n.n in
    let test : ℕ → Bool = λ k. eqb c.args.align (2 ^ k) in
    let over : 14 - n ≡ 0 = omega (arith, c.loop-n-test.false) in
    sym (ap (λ o. unwrap_or o 0 + 1) (c.loop-n.invariant ∙ ap (first_from test n) over))
