-- The bytes of the sections so far are given.
use Rattle.oc_macho_judge.proofs.HolderLemmas.{AreBytes}
use Rattle.oc_macho_judge.proofs.holders.bytes_of.Given as goal

abbrev pub invariant-loop-i : goal.invariant-loop-i
invariant-loop-i l = AreBytes l.frame l.i l.edges.entries l.free.entries l.bytes.entries
