use Rattle.oc_neutral.proofs.KeptLists.{IsKeeping}
use Rattle.oc_neutral.proofs.without.kept.keep_only.Given as goal

-- those of the items so far that stay stand first
abbrev pub invariant-loop-at : goal.invariant-loop-at
invariant-loop-at g l = IsKeeping l.stay l.initial.items.items l.items.items l.left l.at
