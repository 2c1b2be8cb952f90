-- The bytes before the counter are taken, and where none are to be, it stays.
use Rattle.std.proofs.Common.{◌≡◌, ℕ, ◌≤◌}
use Rattle.std.specs.Prelude.{◌||◌}
use Rattle.oc_shelf.specs.Reading.Bitmaps.{has, is_between}
use Rattle.oc_shelf.proofs.reading.bitmap.put_all.Given as goal

abbrev pub invariant-loop-at : goal.invariant-loop-at
invariant-loop-at l = (l.end ≤ l.begin → l.at ≡ l.begin) × ((q : ℕ) → has l.words q ≡ (is_between l.begin l.at q || has l.initial.words q))
