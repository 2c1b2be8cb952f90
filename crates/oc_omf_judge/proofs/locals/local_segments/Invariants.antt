-- The definitions of the entries so far are taken up.
use Rattle.oc_omf_judge.specs.{Defined.{before_in}, Locals.{AreLocals}}
use Rattle.oc_omf_judge.proofs.locals.local_segments.Given as goal

abbrev pub invariant-loop-i : goal.invariant-loop-i
invariant-loop-i l = AreLocals (before_in l.omf l.i).publics l.locals
