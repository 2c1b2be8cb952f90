use Rattle.std.proofs.Common.{◌≡◌}
use Rattle.std.specs.Prelude.{find}
use Rattle.oc_chains.specs.Lists.{list_of}
use Rattle.oc_hints.specs.Hints.{meets}
use Rattle.oc_hints.proofs.noting.first_met.Given as goal

-- the first of the fields that are left is the first of all
abbrev pub invariant-loop-field : goal.invariant-loop-field
invariant-loop-field l =
    (goal.iterator-loop-field).can_next l.field-iterator
    × (goal.iterator-loop-field).is_finite l.field-iterator
    × (find (meets l.fn.key l.fn.neutral l.fn.section) l.field-iterator ≡ find (meets l.fn.key l.fn.neutral l.fn.section) (list_of l.fn.neutral.relocs l.fn.at))
