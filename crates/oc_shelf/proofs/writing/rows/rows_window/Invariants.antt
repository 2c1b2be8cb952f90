-- The buffer is filled with the window of the entries before.
use Rattle.std.proofs.Common.{take}
use Rattle.oc_shelf.specs.Writing.Parts.{table_of}
use Rattle.oc_outside.specs.Windows.{IsFilled}
use Rattle.oc_shelf.proofs.writing.rows.rows_window.Given as goal

abbrev pub invariant-loop-k : goal.invariant-loop-k
invariant-loop-k g l = IsFilled (table_of (take l.k (g.T.WritesRows.rows l.table))) l.from l.initial.out l.out l.done
