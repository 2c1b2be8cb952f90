-- The members so far are not bad, and taken up.
use Rattle.oc_elf_judge.proofs.GroupLemmas.{IsTaking}
use Rattle.oc_elf_judge.proofs.groups.take_members.Given as goal

abbrev pub invariant-loop-i : goal.invariant-loop-i
invariant-loop-i l = IsTaking l.frame l.k l.s l.i l.owners
