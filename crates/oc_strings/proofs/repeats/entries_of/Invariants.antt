-- There is an entry for each name so far.
use Rattle.std.proofs.Common.{◌≡◌}
use Rattle.oc_strings.specs.Repeats.{entries_of, names_of}
use Rattle.oc_strings.proofs.repeats.entries_of.Given as goal

abbrev pub invariant-loop-at : goal.invariant-loop-at
invariant-loop-at l = l.entries.items ≡ entries_of (names_of l.names) l.at
