-- The relocations of the fields so far are added.
use Rattle.std.proofs.Common.{take}
use Rattle.oc_shows.specs.Built.{HasAdded}
use Rattle.oc_omf.specs.Entries.{entries_in}
use Rattle.oc_omf_read.specs.{Built.{started}, Fields.{given_with}}
use Rattle.oc_omf_read.proofs.added_relocs.add_relocations.Given as goal

abbrev pub invariant-loop-j : goal.invariant-loop-j
invariant-loop-j l = HasAdded (started l.context.omf.now) l.builder (given_with (entries_in l.context.omf.now) l.context.keep (take l.j l.fields.items))
