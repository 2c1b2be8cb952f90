use Rattle.std.proofs.Common.{◌∙◌, ap}
use Rattle.std.specs.Ordering.{nat_cmp}
use Rattle.oc_strings.specs.Keys as keys
use Rattle.oc_strings.proofs.KeyLemmas.{numbers_decided}
use Rattle.oc_strings.proofs.order.compare_ends.Goals as goal

pub returns-in_default : goal.returns-in_default
returns-in_default c =
    let one = c.back_number.ensures in
    let other = c.back_number-2.ensures in
    numbers_decided c.args.a.now c.args.b.now c.cmp.result one.bytes other.bytes
    (c.cmp.ensures ∙ ap (λ m. nat_cmp m c.back_number-2.result) one.number ∙ ap (nat_cmp (keys.back_number c.args.a.now)) other.number) c.in_default.not-Equal
