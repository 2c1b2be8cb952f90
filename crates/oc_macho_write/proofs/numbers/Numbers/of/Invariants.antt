use Rattle.oc_base.specs.declared.format.Word.{Word}
use Rattle.oc_macho_write.specs.Lines.{AreLines}
use Rattle.oc_macho_write.proofs.NumberLemmas.{AreUpto}
use Rattle.oc_macho_write.proofs.numbers.Numbers.of.Given as goal

-- the lines before have their numbers
abbrev pub invariant-loop-at : goal.invariant-loop-at
invariant-loop-at l = (w : Word) → AreLines w l.neutral l.lines → AreUpto w l.neutral l.at l.numbers
