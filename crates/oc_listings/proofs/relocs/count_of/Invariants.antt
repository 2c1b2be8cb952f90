-- Those so far and those that are left are all.
use Rattle.std.proofs.Common.{◌≡◌, ◌+◌, length}
use Rattle.oc_chains.specs.Lists.{list_of}
use Rattle.oc_listings.proofs.relocs.count_of.Given as goal

abbrev pub invariant-loop-field : goal.invariant-loop-field
invariant-loop-field l =
    (goal.iterator-loop-field).can_next l.field-iterator
    × (goal.iterator-loop-field).is_finite l.field-iterator
    × (l.count + length l.field-iterator ≡ length (list_of l.fn.neutral.relocs l.fn.section))
