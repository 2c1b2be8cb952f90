-- The positions so far, and the next.
use Rattle.oc_coff.specs.Files.{tables_in}
use Rattle.oc_coff_judge.proofs.SectionPositions.{ArePlaced}
use Rattle.oc_coff_judge.proofs.positions.section_positions.Given as goal

abbrev pub invariant-loop-i : goal.invariant-loop-i
invariant-loop-i l = ArePlaced (tables_in l.coff) l.i l.position l.slots
