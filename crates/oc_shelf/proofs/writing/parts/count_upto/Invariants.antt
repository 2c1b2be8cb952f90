-- The last of those below `low` begins at the place, or before.
use Rattle.std.proofs.Common.{◌-◌, ◌<◌, ◌≤◌, length, get_or}
use Rattle.oc_shelf.proofs.writing.parts.count_upto.Given as goal

abbrev pub invariant-halves : goal.invariant-halves
invariant-halves l = record {
  low : l.low ≤ l.high;
  high : l.high ≤ length l.places;
  before : 0 < l.low → get_or l.places (l.low - 1) 0 ≤ l.from;
}

abbrev pub decreases-halves : goal.decreases-halves
decreases-halves l = l.high - l.low
