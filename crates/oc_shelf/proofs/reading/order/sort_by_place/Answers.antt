-- The closure answers by the order.
use Rattle.std.proofs.Common.{rules}
use Rattle.std.specs.Ordering.{is_lt}
use Rattle.std.proofs.lemmas.{List.Sorted.{ranks_by}, Fn.{always_returns_same}}
use Rattle.oc_shelf.specs.{declared.reading.order.PlacedEntry.{PlacedEntry}, Reading.Order.{by_place}}
use Rattle.oc_shelf.proofs.ReadingLaws.OrderLemmas.{by_place_total}
use Rattle.oc_shelf.proofs.reading.order.sort_by_place.Goals as goal

pub returns-clause-sorted : goal.returns-clause-sorted
returns-clause-sorted c =
    c.sort_unstable_by.ensures.sorted (λ x y. is_lt (by_place x y)) (ranks_by by_place_total (λ (e : PlacedEntry). e))
    (always_returns_same _ _ _ (λ a r f called. search rules))
