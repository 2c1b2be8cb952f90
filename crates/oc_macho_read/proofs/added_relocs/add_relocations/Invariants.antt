-- The relocations of the sections so far are added.
use Rattle.oc_shows.specs.Built.{HasAdded}
use Rattle.oc_macho_read.specs.{Built.{started}, Given.{given_before}}
use Rattle.oc_macho_read.proofs.added_relocs.add_relocations.Given as goal

abbrev pub invariant-loop-i : goal.invariant-loop-i
invariant-loop-i l = HasAdded (started l.frame l.known.keep) l.builder (given_before l.frame l.known.keep l.i)
