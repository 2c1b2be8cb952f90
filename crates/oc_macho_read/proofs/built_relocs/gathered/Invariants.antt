-- The fields so far, and whether one begins with the next entry.
use Rattle.std.proofs.Common.{◌≡◌}
use Rattle.oc_shelf.specs.Reading.Collected.{collected}
use Rattle.oc_macho.specs.{Entries.{begins}, Framed.{table_at}}
use Rattle.oc_macho_read.specs.Given.{placed}
use Rattle.oc_macho_read.proofs.built_relocs.gathered.Given as goal

abbrev pub invariant-loop-k : goal.invariant-loop-k
invariant-loop-k l = record { fields_are : l.fields.items ≡ collected (placed l.frame (table_at l.frame l.i)) l.k; begins_is : l.begins ≡ begins l.frame.word (table_at l.frame l.i).relocs l.k }
