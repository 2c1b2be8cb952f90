-- The first power of two that is met is the least.
use Rattle.std.proofs.Common.{◌≡◌, ℕ, suc, ◌+◌, ◌-◌, ◌*◌, ◌<◌, ◌%◌, ◌^◌, Bool, false, cond, eqb, Some, sym, ◌∙◌, ap, arith, eq-eqb}
use Rattle.std.proofs.lemmas.Bool.{ne_eqb}
use Rattle.std.proofs.{Math.Pow.{pow-lt}, Math.Nat.{mod-eq_of_lt}}
use Rattle.std.specs.Option.{unwrap_or}
use Rattle.oc_linking.specs.Numbers.{first_from}
use Rattle.oc_linking.proofs.Upto.{first_from_step}
use Rattle.oc_macho_file.specs.Symbols.{exponent_of}
use Rattle.oc_macho_write.proofs.values.exponent_of.Goals as goal

power : (n : ℕ) → n < 16 → (1 * 2 ^ n) % 2 ^ 32 ≡ 2 ^ n
power n l =
    let small : 2 ^ n < 2 ^ 32 = pow-lt {j = 32} (omega (arith, l)) in
    let one : 1 * 2 ^ n ≡ 2 ^ n = omega arith in
    ap (λ (k : ℕ). k % 2 ^ 32) one ∙ mod-eq_of_lt small

pub returns-then-align-exponent-clause-exponent : goal.returns-then-align-exponent-clause-exponent
unfolding exponent_of
returns-then-align-exponent-clause-exponent c =
    let n : ℕ = c.loop-exponent.exponent in
    let test : ℕ → Bool = λ k. eqb c.args.align (2 ^ k) in
    let is : c.args.align ≡ 2 ^ n = c.if-align-exponent.true ∙ power n c.loop-exponent-test.true in
    let some : 16 - n ≡ suc (16 - (n + 1)) = omega (arith, c.loop-exponent-test.true) in
    let here : first_from test n (16 - n) ≡ Some n = ap (first_from test n) some ∙ ap (λ b. cond b (Some n) (first_from test (n + 1) (16 - (n + 1)))) (eq-eqb c.args.align (2 ^ n) is) in
    sym (ap (λ o. unwrap_or o 0) (c.loop-exponent.invariant ∙ here))

pub loop-exponent-preserved : goal.loop-exponent-preserved
loop-exponent-preserved c =
    let n : ℕ = c.loop-exponent.exponent in
    let fails : eqb c.args.align (2 ^ n) ≡ false = ne_eqb c.args.align (2 ^ n) (λ e. c.if-align-exponent.false (e ∙ sym (power n c.loop-exponent-test.true))) in
    c.loop-exponent.invariant ∙ first_from_step (λ k. eqb c.args.align (2 ^ k)) n 16 fails c.loop-exponent-test.true

pub returns-clause-exponent : goal.returns-clause-exponent
unfolding exponent_of
returns-clause-exponent c =
    let n : ℕ = c.loop-exponent.exponent in
    let test : ℕ → Bool = λ k. eqb c.args.align (2 ^ k) in
    let over : 16 - n ≡ 0 = omega (arith, c.loop-exponent-test.false) in
    sym (ap (λ o. unwrap_or o 0) (c.loop-exponent.invariant ∙ ap (first_from test n) over))
