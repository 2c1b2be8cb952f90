use Rattle.std.proofs.Common.{◌∙◌, ◌<◌, length, ap, arith}
use Rattle.oc_neutral.proofs.{KeptLists.{keeping_goes, keeping_stays}, Positions.{there_at}, without.kept.keep_only.Goals.{then-stay-at, else-stay-at}}
use Rattle.oc_neutral.proofs.without.kept.keep_only.Goals as goal

pub loop-at-preserved : goal.loop-at-preserved
loop-at-preserved g c =
    let stay = c.args.stay.now in
    let old = c.args.items.now.items in
    let now = c.loop-at.items.items in
    let so_far = c.loop-at.invariant in
    let lt : c.loop-at.at < length stay = omega (arith, c.loop-at-test.true) in
    let x = there_at now c.loop-at.at (omega (arith, lt, c.requires, so_far.long)) in
    elim c.if-stay-at.branch [
      | then-stay-at w ↦
          rw w.left-is
          (keeping_stays stay old now c.loop-at.left c.loop-at.at x.0 c.requires lt so_far _ w.if-stay-at.true c.if-stay-at.items.items (ap (λ v. v.items) w.items-is ∙ w.swap.ensures.items))
      | else-stay-at w ↦
          rw (ap (λ v. v.items) w.items-is, w.left-is)
          (keeping_goes stay old now c.loop-at.left c.loop-at.at x.0 c.requires lt so_far _ w.if-stay-at.false)
    ]
