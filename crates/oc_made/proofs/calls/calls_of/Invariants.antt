-- The calls of the functions so far.
use Rattle.std.proofs.Common.{◌≡◌, ◌∷◌, []}
use Rattle.oc_made.proofs.CallLemmas.{calls_from}
use Rattle.oc_made.proofs.calls.calls_of.Given as goal

abbrev pub invariant-loop-i : goal.invariant-loop-i
invariant-loop-i l = l.calls.lists ≡ calls_from l.word l.count 0 l.i ∷ []
