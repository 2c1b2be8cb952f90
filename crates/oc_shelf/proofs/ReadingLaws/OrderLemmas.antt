-- Entries in the order of their places, walked in order.
use Rattle.std.specs.Cmp.{IsTotalOrder}
use Rattle.std.proofs.lemmas.Cmp.{nat_cmp_total, on_total, then_total}
use Rattle.oc_shelf.specs.{declared.reading.order.PlacedEntry.{PlacedEntry}, Reading.Order.{by_place}}

pub by_place_total : IsTotalOrder by_place
by_place_total = then_total (on_total (λ (e : PlacedEntry). e.place) nat_cmp_total) (on_total (λ (e : PlacedEntry). e.index) nat_cmp_total)
