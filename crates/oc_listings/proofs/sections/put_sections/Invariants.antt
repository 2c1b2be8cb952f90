-- The lines of the sections so far stand after the text.
use Rattle.std.proofs.Common.{◌≡◌, ◌++◌, take, string_bytes}
use Rattle.std.specs.List.{flat_map}
use Rattle.oc_listings.specs.ObjectListings.{section_line}
use Rattle.oc_listings.proofs.sections.put_sections.Given as goal

abbrev pub invariant-loop-section : goal.invariant-loop-section
invariant-loop-section l = string_bytes l.out ≡ string_bytes l.initial.out ++ flat_map section_line (take l.section-index l.section-items)
