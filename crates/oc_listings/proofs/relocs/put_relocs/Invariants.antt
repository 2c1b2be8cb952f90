-- The lines of the sections so far stand after the text.
use Rattle.std.proofs.Common.{◌≡◌, ◌++◌, string_bytes}
use Rattle.std.specs.List.{flat_map, range_with_len}
use Rattle.oc_listings.specs.ObjectListings.{reloc_text_of}
use Rattle.oc_listings.proofs.relocs.put_relocs.Given as goal

abbrev pub invariant-loop-section : goal.invariant-loop-section
invariant-loop-section l = string_bytes l.out ≡ string_bytes l.initial.out ++ flat_map (reloc_text_of l.neutral) (range_with_len 0 l.section)
