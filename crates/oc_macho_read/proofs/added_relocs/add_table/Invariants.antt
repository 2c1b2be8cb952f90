-- The relocations of the fields so far are added.
use Rattle.std.proofs.Common.{take}
use Rattle.oc_shows.specs.Built.{HasAdded}
use Rattle.oc_macho_read.specs.{Built.{started}, Given.{given_with}}
use Rattle.oc_macho_read.proofs.added_relocs.add_table.Given as goal

abbrev pub invariant-loop-j : goal.invariant-loop-j
invariant-loop-j l = HasAdded (started l.frame l.known.keep) l.builder (given_with l.frame l.known.keep l.i (take l.j l.fields.items))
