-- The sections so far have no fault, and the sums are theirs.
use Rattle.oc_macho_judge.proofs.SectionLemmas.{IsChecking}
use Rattle.oc_macho_judge.proofs.section_stage.check_sections.Given as goal

abbrev pub invariant-loop-i : goal.invariant-loop-i
invariant-loop-i l = IsChecking l.frame l.i l.sums.sizes l.sums.bytes
