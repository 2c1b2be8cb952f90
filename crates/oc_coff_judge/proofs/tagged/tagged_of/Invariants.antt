-- What the symbols so far tag is marked.
use Rattle.oc_coff_judge.proofs.TaggedLemmas.{AreMarked}
use Rattle.oc_coff_judge.proofs.tagged.tagged_of.Given as goal

abbrev pub invariant-loop-i : goal.invariant-loop-i
invariant-loop-i l = AreMarked l.coff l.numbers l.i l.slots
