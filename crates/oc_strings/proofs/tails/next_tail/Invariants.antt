use Rattle.std.proofs.Common.{length}
use Rattle.oc_strings.specs.Order.{names_of}
use Rattle.oc_strings.proofs.TailLemmas.{Beyond, still}
use Rattle.oc_strings.proofs.tails.next_tail.Given as goal

abbrev pub invariant-loop-candidate : goal.invariant-loop-candidate
invariant-loop-candidate l = Beyond (names_of l.entries) (length l.tails) l.candidate

abbrev pub decreases-loop-candidate : goal.decreases-loop-candidate
decreases-loop-candidate l = still l.candidate
