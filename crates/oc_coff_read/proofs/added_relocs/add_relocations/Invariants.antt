-- The relocations of the sections so far are added.
use Rattle.oc_coff_read.specs.Adding.{HasBefore}
use Rattle.oc_coff_read.proofs.added_relocs.add_relocations.Given as goal

abbrev pub invariant-loop-i : goal.invariant-loop-i
invariant-loop-i l = HasBefore l.fn.word l.fn.coff l.fn.keep l.i l.position l.builder
