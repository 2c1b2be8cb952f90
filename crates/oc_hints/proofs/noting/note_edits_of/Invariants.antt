use Rattle.std.proofs.Common.{◌≡◌, ◌++◌, take}
use Rattle.std.specs.List.{flat_map}
use Rattle.oc_hints.specs.{Case.{case_of}, Hints.{edit_hint}}
use Rattle.oc_hints.proofs.noting.note_edits_of.Given as goal

-- the hints of the edits so far stand after the others
abbrev pub invariant-loop-edit : goal.invariant-loop-edit
invariant-loop-edit l = l.found.items ≡ l.initial.found.items ++ flat_map (edit_hint l.key (case_of l.subject)) (take l.edit-index l.edits)
