-- The relocations of the sections so far are added.
use Rattle.oc_shows.specs.Built.{HasAdded}
use Rattle.oc_elf_read.specs.{Built.{symboled}, Given.{given_before}}
use Rattle.oc_elf.specs.Tables.{symbol_count}
use Rattle.oc_elf_read.proofs.added_relocs.add_relocations.Given as goal

abbrev pub invariant-loop-i : goal.invariant-loop-i
invariant-loop-i l = HasAdded (symboled l.frame (symbol_count l.frame)) l.builder (given_before l.frame l.keep l.i)
