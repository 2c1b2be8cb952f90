-- The sections so far are noted.
use Rattle.oc_macho_judge.specs.Holders.{AreEdges}
use Rattle.oc_macho_judge.proofs.holders.edges_of.Given as goal

abbrev pub invariant-loop-i : goal.invariant-loop-i
invariant-loop-i l = AreEdges l.frame l.i l.edges.entries
