use Rattle.oc_plans.proofs.FieldBytes.{AreWriting}
use Rattle.oc_plans.proofs.numbered.write_all.Given as goal

-- the sections so far are done
abbrev pub invariant-loop-k : goal.invariant-loop-k
invariant-loop-k g l = AreWriting (g.N.FieldNumbers.tells l.numbers) l.relocs.lists l.initial.sections l.k l.sections
