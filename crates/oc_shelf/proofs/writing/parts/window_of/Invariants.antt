-- The buffer is filled with the window of the parts before.
use Rattle.std.proofs.Common.{take}
use Rattle.oc_outside.specs.Windows.{IsFilled}
use Rattle.oc_shelf.specs.Writing.Parts.{file_of, pieces_by}
use Rattle.oc_shelf.proofs.writing.parts.window_of.Given as goal

abbrev pub invariant-loop-k : goal.invariant-loop-k
invariant-loop-k g l = IsFilled (file_of (take l.k (pieces_by l.layout (g.P.Parts.parts l.parts)))) l.from l.initial.out l.out l.done
