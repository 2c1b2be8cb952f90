-- No byte before the counter is taken.
use Rattle.std.proofs.Common.{◌≡◌, ℕ, ◌<◌, ◌≤◌, false}
use Rattle.oc_shelf.specs.Reading.Bitmaps.{has}
use Rattle.oc_shelf.proofs.reading.bitmap.any_taken.Given as goal

abbrev pub invariant-loop-at : goal.invariant-loop-at
invariant-loop-at l = (q : ℕ) → l.begin ≤ q → q < l.at → has l.words q ≡ false
