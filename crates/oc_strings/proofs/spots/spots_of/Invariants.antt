use Rattle.std.proofs.Common.{◌≡◌, ℕ, ◌<◌, length, get_or}
use Rattle.oc_strings.specs.{declared.spots.Spot.{Spot}, Order.{number_at, spot_of}}
use Rattle.oc_strings.proofs.spots.spots_of.Given as goal

abbrev pub invariant-loop-k : goal.invariant-loop-k
invariant-loop-k l = record {
  whole : length l.spots.items ≡ length l.names;
  are : (j : ℕ) (d : Spot) → j < l.k → get_or l.spots.items (number_at l.fn.order.entries.items j) d ≡ spot_of l.fn.order.entries.items l.fn.order.tails.items j;
}
