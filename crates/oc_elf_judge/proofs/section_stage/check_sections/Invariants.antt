-- The headers so far have no fault, and the tables, the groups and the sums are theirs.
use Rattle.oc_elf_judge.proofs.SectionLemmas.{IsChecking}
use Rattle.oc_elf_judge.proofs.section_stage.check_sections.Given as goal

abbrev pub invariant-loop-k : goal.invariant-loop-k
invariant-loop-k l = IsChecking l.frame l.k l.symtab l.relocs l.owners l.sums.sizes l.sums.bytes
