-- The relocations of the sections so far.
use Rattle.std.proofs.Common.{◌≡◌, take}
use Rattle.oc_chains.specs.Lists.{held_in}
use Rattle.oc_listings.proofs.relocs.reloc_count.Given as goal

abbrev pub invariant-loop-section : goal.invariant-loop-section
invariant-loop-section l = l.count ≡ held_in (take l.section l.neutral.relocs)
