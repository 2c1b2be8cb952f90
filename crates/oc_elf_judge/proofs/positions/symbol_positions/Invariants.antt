-- The positions so far, and the next.
use Rattle.oc_elf.specs.CarriedSymbols.{symbol_of}
use Rattle.oc_elf_judge.proofs.PositionLemmas.{ArePlaced}
use Rattle.oc_elf_judge.proofs.positions.symbol_positions.Given as goal

abbrev pub invariant-loop-k : goal.invariant-loop-k
invariant-loop-k l = ArePlaced (symbol_of l.frame) l.k l.position l.slots
