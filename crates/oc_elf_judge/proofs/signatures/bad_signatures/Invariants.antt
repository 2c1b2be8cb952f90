-- The signatures of the groups so far are marked, and their keys are known.
use Rattle.oc_strings.specs.Repeats.{names_of}
use Rattle.oc_elf_judge.specs.{Marks.{AreMarks}, Stood.{HaveStoodIf}}
use Rattle.oc_elf_judge.proofs.signatures.bad_signatures.Given as goal

abbrev pub invariant-loop-g : goal.invariant-loop-g
invariant-loop-g l = record {
  marks : AreMarks l.frame l.g l.marks;
  stood : HaveStoodIf l.found (names_of l.keys.items) l.g l.stood;
}
