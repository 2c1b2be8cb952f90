-- The entries among the symbols so far.
use Rattle.oc_coff.specs.Files.{tables_in}
use Rattle.std.proofs.Common.{length, take}
use Rattle.oc_shelf.specs.Reading.Slots.{AreSlots}
use Rattle.oc_coff_judge.proofs.StartLemmas.{start_among}
use Rattle.oc_coff_judge.proofs.found.starts_of.Given as goal

abbrev pub invariant-loop-i : goal.invariant-loop-i
invariant-loop-i l = AreSlots (start_among l.coff (take l.i l.numbers)) (length (tables_in l.coff).entries) l.starts
