-- What the fields so far take is marked.
use Rattle.oc_macho.specs.Framed.{table_at}
use Rattle.oc_macho_read.proofs.PinLemmas.{IsMarking}
use Rattle.oc_macho_read.proofs.pins.mark_table.Given as goal

abbrev pub invariant-loop-k : goal.invariant-loop-k
invariant-loop-k l = IsMarking l.frame (table_at l.frame l.i) l.k l.begins l.initial.marks.items l.marks.items
