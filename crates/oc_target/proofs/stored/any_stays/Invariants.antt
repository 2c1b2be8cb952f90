use Rattle.std.proofs.Common.{◌≡◌}
use Rattle.std.specs.List.{list_any}
use Rattle.oc_chains.specs.Lists.{list_of}
use Rattle.oc_neutral.specs.Relocated.{stays}
use Rattle.oc_target.proofs.stored.any_stays.Given as goal

-- the fields before do not stay
abbrev pub invariant-loop-field : goal.invariant-loop-field
invariant-loop-field l =
    (goal.iterator-loop-field).can_next l.field-iterator
    × (goal.iterator-loop-field).is_finite l.field-iterator
    × (list_any (stays l.fn.target l.fn.section) (list_of l.fn.neutral.relocs l.fn.section) ≡ list_any (stays l.fn.target l.fn.section) l.field-iterator)
