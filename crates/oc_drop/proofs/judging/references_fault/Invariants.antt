use Rattle.std.proofs.Common.{◌≡◌, None}
use Rattle.oc_linking.specs.Numbers.{first_upto}
use Rattle.oc_drop.specs.Dropping.{section_fault}
use Rattle.oc_drop.proofs.judging.references_fault.Given as goal

-- no section before has such a field
abbrev pub invariant-loop-at : goal.invariant-loop-at
invariant-loop-at l = first_upto (section_fault l.stay l.neutral) l.at ≡ None
