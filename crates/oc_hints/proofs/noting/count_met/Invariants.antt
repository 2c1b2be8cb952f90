use Rattle.std.proofs.Common.{◌≡◌, ◌≤◌, ◌+◌, length}
use Rattle.std.specs.List.{count_by}
use Rattle.oc_chains.specs.Lists.{list_of}
use Rattle.oc_hints.specs.Hints.{meets}
use Rattle.oc_hints.proofs.noting.count_met.Given as goal

-- those so far and those that are left are all
abbrev pub invariant-loop-field : goal.invariant-loop-field
invariant-loop-field l =
    (goal.iterator-loop-field).can_next l.field-iterator
    × (goal.iterator-loop-field).is_finite l.field-iterator
    × (l.count + count_by (meets l.fn.key l.fn.neutral l.fn.section) l.field-iterator ≡ count_by (meets l.fn.key l.fn.neutral l.fn.section) (list_of l.fn.neutral.relocs l.fn.at))
    × (l.count + length l.field-iterator ≤ length (list_of l.fn.neutral.relocs l.fn.at))
