-- As many empty slots as turns.
use Rattle.std.proofs.Common.{◌≡◌, replicate, None}
use Rattle.oc_shelf.proofs.reading.slots.Slots.empty.Given as goal

abbrev pub invariant-loop : goal.invariant-loop
invariant-loop l = l.slots.items ≡ replicate l.counter None
