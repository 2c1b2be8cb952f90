use Rattle.tests_object.specs.Small.{IsCalling}
use Rattle.tests_object.proofs.neutral.fields.add_relocs.Given as goal

-- it is such an object still
abbrev pub invariant-loop-at : goal.invariant-loop-at
invariant-loop-at g l = IsCalling l.builder.object
