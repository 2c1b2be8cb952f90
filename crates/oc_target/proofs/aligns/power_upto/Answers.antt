use Rattle.std.proofs.Common.{◌≡◌, ◌*◌, ◌%◌, ◌^◌, ◌<◌, ◌≤◌, ◌∙◌, ℕ, false, nat_le, arith}
use Rattle.std.proofs.Math.Pow.{pow_mono}
use Rattle.std.proofs.lemmas.Bool.Decides.{nat_tests}
use Rattle.oc_linking.proofs.Upto.{first_from_step}
use Rattle.oc_target.proofs.aligns.power_upto.Goals as goal

pub loop-k-preserved : goal.loop-k-preserved
loop-k-preserved c =
    let k : ℕ = c.loop-k.k in
    let small : 2 ^ k ≤ 2 ^ 20 = pow_mono {i = k} {j = 20} (omega (arith, c.loop-k-test.true, c.requires)) in
    let whole : 1 * 2 ^ k % 4294967296 ≡ 2 ^ k = omega (arith, small) in
    let above : 2 ^ k < c.args.align = omega (arith, c.if-align-k.false, whole) in
    let fails : nat_le c.args.align (2 ^ k) ≡ false = grind (arith, nat_tests, above) in
    c.loop-k.invariant ∙ first_from_step (λ j. nat_le c.args.align (2 ^ j)) k c.args.most fails c.loop-k-test.true
