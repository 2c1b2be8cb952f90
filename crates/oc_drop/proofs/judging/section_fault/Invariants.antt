use Rattle.std.proofs.Common.{◌≡◌}
use Rattle.oc_chains.specs.Lists.{list_of}
use Rattle.oc_drop.specs.{Steps.{first_in}, Dropping.{dropped_reference}}
use Rattle.oc_drop.proofs.judging.section_fault.Given as goal

-- the fields that are left have the answer
abbrev pub invariant-loop-field : goal.invariant-loop-field
invariant-loop-field l =
    first_in (dropped_reference l.stay l.at l.section) l.field-iterator ≡ first_in (dropped_reference l.stay l.at l.section) (list_of l.neutral.relocs l.at)
