use Rattle.std.proofs.Common.{ℕ, List}
use Rattle.oc_strings.specs.Order.{IsOrder}
use Rattle.oc_strings.proofs.EntryLemmas.{IsSearched}
use Rattle.oc_strings.proofs.order.Order.numbers.Given as goal

abbrev pub invariant-loop-k : goal.invariant-loop-k
invariant-loop-k l = (names : List (List ℕ)) → IsOrder names l.self.entries.items l.self.tails.items → IsSearched names l.self.entries.items l.k l.numbers.items
