use Rattle.std.proofs.Common.{◌≡◌, length}
use Rattle.oc_strings.specs.Order.{names_of, AreNextTails}
use Rattle.oc_strings.proofs.tails.next_tails.Given as goal

abbrev pub invariant-loop-k : goal.invariant-loop-k
invariant-loop-k l = record { count : length l.tails.items ≡ l._k; known : AreNextTails (names_of l.entries) l.tails.items }
