-- The buffer is filled with the window of the headers before.
use Rattle.std.proofs.Common.{take, map}
use Rattle.oc_shelf.specs.Writing.Parts.{table_of}
use Rattle.oc_macho.specs.Structures.{section_bytes}
use Rattle.oc_outside.specs.Windows.{IsFilled}
use Rattle.oc_macho_write.proofs.tables.headers_window.Given as goal

abbrev pub invariant-loop-k : goal.invariant-loop-k
invariant-loop-k l = IsFilled (table_of (take l.k (map (section_bytes l.word) l.headers))) l.from l.initial.out l.out l.done
