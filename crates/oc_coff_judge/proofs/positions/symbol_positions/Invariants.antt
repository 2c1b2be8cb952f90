-- The positions so far, and the next.
use Rattle.oc_coff_judge.proofs.SymbolPositions.{AreStanding}
use Rattle.oc_coff_judge.proofs.positions.symbol_positions.Given as goal

abbrev pub invariant-loop-i : goal.invariant-loop-i
invariant-loop-i l = AreStanding l.coff l.i l.position l.slots
