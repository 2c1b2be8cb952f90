use Rattle.tests_object.specs.Small.{IsBare}
use Rattle.tests_object.proofs.names.add_symbols.Given as goal

-- it is such an object still
abbrev pub invariant-loop-shown : goal.invariant-loop-shown
invariant-loop-shown g l = IsBare l.strong l.builder.object
