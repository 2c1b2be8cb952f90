-- The closure answers by the order.
use Rattle.std.proofs.Common.{rules}
use Rattle.std.specs.Ordering.{is_lt}
use Rattle.std.proofs.lemmas.{List.Sorted.{ranks_by}, Fn.{always_returns_same}}
use Rattle.oc_strings.specs.{declared.repeats.SortKey.{SortKey}, Repeats.{names_of, order}}
use Rattle.oc_strings.proofs.RepeatSorting.{order_total}
use Rattle.oc_strings.proofs.repeats.sort.Goals as goal

pub returns-clause-sorted : goal.returns-clause-sorted
returns-clause-sorted c =
    c.sort_unstable_by.ensures.sorted (λ x y. is_lt (order (names_of c.args.names.now) x y)) (ranks_by (order_total (names_of c.args.names.now)) (λ (e : SortKey). e))
    (always_returns_same _ _ _ (λ a r f called. search rules))
