-- The numbers so far, and how many auxiliary entries are left.
use Rattle.oc_coff_judge.proofs.NumberLemmas.{IsPassing}
use Rattle.oc_coff_judge.proofs.numbers.symbol_numbers.Given as goal

abbrev pub invariant-loop-j : goal.invariant-loop-j
invariant-loop-j l = IsPassing l.coff l.j l.auxiliary l.numbers.items
