use Rattle.std.proofs.Common.{◌∙◌}
use Rattle.oc_strings.proofs.{EndLemmas.{same_ends}, OrderLemmas.{same_tails}}
use Rattle.oc_strings.proofs.order.without_words.Goals as goal

pub loop-a_left-preserved : goal.loop-a_left-preserved
loop-a_left-preserved c =
    let shared = c.shares_word.ensures.0 c.loop-a_left-test.true in
    let (order, tail) = c.loop-a_left.invariant in
    (order ∙ same_tails 8 c.loop-a_left.a_left.now c.loop-a_left.b_left.now shared, tail ∙ same_ends 8 c.loop-a_left.a_left.now c.loop-a_left.b_left.now shared)
