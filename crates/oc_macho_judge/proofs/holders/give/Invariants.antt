-- What was given so far is free no more.
use Rattle.std.proofs.Common.{length}
use Rattle.oc_macho_judge.proofs.HolderLemmas.{AreShared}
use Rattle.oc_macho_judge.proofs.holders.give.Given as goal

abbrev pub invariant-loop-at : goal.invariant-loop-at
invariant-loop-at l = AreShared l.initial.free.entries l.initial.bytes.entries l.free.entries l.bytes.entries l.begin l.end l.number

abbrev pub decreases-loop-at : goal.decreases-loop-at
decreases-loop-at l = length l.free.entries
