-- What the sections so far take is marked.
use Rattle.oc_macho_read.specs.Pins.{AreMarks, is_pinned_upto}
use Rattle.oc_macho_read.proofs.pins.pins_of.Given as goal

abbrev pub invariant-loop-i : goal.invariant-loop-i
invariant-loop-i l = AreMarks l.frame (is_pinned_upto l.frame l.keep l.i) l.marks.items
