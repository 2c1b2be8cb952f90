use Rattle.std.proofs.Common.{◌++◌}
use Rattle.oc_hints.specs.Hints.{each_from, field_hint}
use Rattle.oc_hints.proofs.Steps.{AreAll}
use Rattle.oc_hints.proofs.noting.note_fields_of.Given as goal

-- the hints so far, and those of the sections that are left
abbrev pub invariant-loop-at : goal.invariant-loop-at
invariant-loop-at l =
    AreAll (field_hint l.key l.neutral) l.neutral.sections (l.initial.found.items ++ each_from (field_hint l.key l.neutral) 0 l.neutral.sections) l.at l.found.items
