-- The positions so far, and the next.
use Rattle.oc_elf.specs.CarriedSections.{section_of}
use Rattle.oc_elf_judge.proofs.PositionLemmas.{ArePlaced}
use Rattle.oc_elf_judge.proofs.positions.section_positions.Given as goal

abbrev pub invariant-loop-k : goal.invariant-loop-k
invariant-loop-k l = ArePlaced (section_of l.frame) l.k l.position l.slots
