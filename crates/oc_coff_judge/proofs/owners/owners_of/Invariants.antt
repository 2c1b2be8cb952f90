-- The first two symbols of each section among the symbols so far.
use Rattle.std.proofs.Common.{take}
use Rattle.oc_coff_judge.proofs.OwnerLemmas.{IsOwning}
use Rattle.oc_coff_judge.proofs.owners.owners_of.Given as goal

abbrev pub invariant-loop-i : goal.invariant-loop-i
invariant-loop-i l = IsOwning l.coff (take l.i l.numbers) l.firsts l.seconds
