-- The relocations of the entries so far are added.
use Rattle.std.proofs.Common.{take}
use Rattle.oc_shows.specs.Built.{HasAdded}
use Rattle.oc_elf_read.specs.{Built.{symboled}, Given.{given_with}}
use Rattle.oc_elf.specs.Tables.{symbol_count}
use Rattle.oc_elf_read.proofs.added_relocs.add_table.Given as goal

abbrev pub invariant-loop-j : goal.invariant-loop-j
invariant-loop-j l = HasAdded (symboled l.frame (symbol_count l.frame)) l.builder (given_with l.frame l.keep l.place.number l.place.position (take l.j l.entries.items))
