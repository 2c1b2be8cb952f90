use Rattle.std.proofs.Common.{◌≡◌}
use Rattle.std.specs.List.{AllByRecursion}
use Rattle.oc_chains.specs.Lists.{list_of}
use Rattle.oc_link.specs.Values.{first_of, overflows_at}
use Rattle.oc_link.proofs.FieldLemmas.{IsFound}
use Rattle.oc_link.proofs.overflow.first_field.Given as goal

-- no field before overflows, and what is left are fields of the section
abbrev pub invariant-loop-field : goal.invariant-loop-field
invariant-loop-field l =
    (goal.iterator-loop-field).can_next l.field-iterator
    × (goal.iterator-loop-field).is_finite l.field-iterator
    × (first_of (overflows_at l.fn.object l.fn.placed l.fn.section) (list_of l.fn.object.relocs l.fn.section) ≡ first_of (overflows_at l.fn.object l.fn.placed l.fn.section) l.field-iterator)
    × AllByRecursion (IsFound l.fn.object l.fn.section) l.field-iterator
