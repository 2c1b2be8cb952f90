use Rattle.std.proofs.Common.{◌≡◌, None, sym, subst, arith}
use Rattle.oc_linking.specs.{Numbers.{first_upto}, Images.{byte_by}, Plain.{patches_at}}
use Rattle.oc_linking.proofs.Upto.{first_upto_stop}
use Rattle.oc_linking.proofs.plain.byte_at.Goals as goal

pub returns-in-Some : goal.returns-in-Some
returns-in-Some c = sym (first_upto_stop (byte_by (patches_at c.args.fields.now c.args.section) c.args.i) c.loop-back.back 8 c.in-Some.byte
    c.loop-back.invariant (sym c.in-Some.ensures) c.loop-back-test.true)

pub returns : goal.returns
returns c = let e : c.loop-back.back ≡ 8 = omega (arith, c.loop-back-test.false, c.loop-back.auto.back-end) in
    sym (subst (λ k. first_upto (byte_by (patches_at c.args.fields.now c.args.section) c.args.i) k ≡ None) e c.loop-back.invariant)
