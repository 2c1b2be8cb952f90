-- The relocations of the entries so far are added.
use Rattle.oc_coff_read.specs.Adding.{AreAddedUpto}
use Rattle.oc_coff_read.proofs.added_relocs.add_table.Given as goal

abbrev pub invariant-loop-j : goal.invariant-loop-j
invariant-loop-j l = AreAddedUpto l.context.word l.context.coff.now l.context.keep.now l.place.position l.j l.entries.items l.builder
