use Rattle.std.proofs.Common.{◌≡◌, ℕ, ◌<◌, Some, length}
use Rattle.oc_strings.specs.Tables.{texts}
use Rattle.oc_strings.proofs.WalkLemmas.{IsWalk, unplaced}
use Rattle.oc_strings.proofs.spots.place_tails.Given as goal

abbrev pub invariant-loop-current : goal.invariant-loop-current
invariant-loop-current l = record {
  offsets : length l.offsets ≡ length l.names;
  spots : length l.spots ≡ length l.names;
  low : (i : ℕ) → l.current ≡ Some i → i < length l.names;
  walk : IsWalk (texts l.names) l.spots l.at l.number l.fn.offsets l.offsets l.current;
}

abbrev pub decreases-loop-current : goal.decreases-loop-current
decreases-loop-current l = unplaced l.offsets
