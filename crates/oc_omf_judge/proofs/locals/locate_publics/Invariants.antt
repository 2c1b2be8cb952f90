-- The segments so far are taken up.
use Rattle.std.proofs.Common.{◌-◌, List, [], length}
use Rattle.oc_omf.specs.Structures.{Public, public_read}
use Rattle.oc_omf_judge.specs.{NameNumbers.{NameNumbers}, Locals.{AreLocals}}
use Rattle.oc_omf_judge.proofs.WalkLemmas.{Walk}
use Rattle.oc_omf_judge.proofs.locals.locate_publics.Given as goal

abbrev pub invariant-loop-at : goal.invariant-loop-at
invariant-loop-at l =
    (publics : List Public) → AreLocals publics l.fn.locals
    → Walk (λ (ps : List Public) (h : NameNumbers). AreLocals ps h) (λ ps x p. []) 0 0 (public_read l.wide l.local l.segment) l.contents publics l.fn.at l.at l.locals

abbrev pub decreases-loop-at : goal.decreases-loop-at
decreases-loop-at l = length l.contents - l.at
