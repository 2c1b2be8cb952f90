-- What was found is the first of the repeats so far.
use Rattle.oc_strings.specs.Repeats.{names_of}
use Rattle.oc_strings.proofs.RepeatSorting.{IsLeast}
use Rattle.oc_strings.proofs.repeats.first_repeat.Given as goal

abbrev pub invariant-loop-i : goal.invariant-loop-i
invariant-loop-i l = IsLeast (names_of l.names) l.entries.items l.i l.found
