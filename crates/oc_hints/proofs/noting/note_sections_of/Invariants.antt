use Rattle.std.proofs.Common.{◌≡◌, ◌++◌, take}
use Rattle.std.specs.List.{flat_map}
use Rattle.oc_hints.specs.{Case.{case_of}, Hints.{section_hint}}
use Rattle.oc_hints.proofs.noting.note_sections_of.Given as goal

-- the hints of the sections so far stand after the others
abbrev pub invariant-loop-section : goal.invariant-loop-section
invariant-loop-section l = l.found.items ≡ l.initial.found.items ++ flat_map (section_hint l.key (case_of l.subject)) (take l.section-index l.sections)
