use Rattle.std.proofs.Common.{◌≡◌, length, reverse}
use Rattle.oc_base.specs.Strings.{ends}
use Rattle.oc_strings.proofs.OrderLemmas.{order}
use Rattle.oc_strings.proofs.order.without_words.Given as goal

abbrev pub invariant-loop-a_left : goal.invariant-loop-a_left
invariant-loop-a_left l =
    (order (reverse l.a) (reverse l.b) ≡ order (reverse l.a_left) (reverse l.b_left)) × (ends l.a l.b ≡ ends l.a_left l.b_left)

abbrev pub decreases-loop-a_left : goal.decreases-loop-a_left
decreases-loop-a_left l = length l.a_left
