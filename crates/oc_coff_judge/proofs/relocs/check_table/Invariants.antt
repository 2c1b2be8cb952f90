-- The entries so far have no fault, and the bytes taken are those of their fields.
use Rattle.oc_coff_judge.proofs.TakenBytes.{IsJudging}
use Rattle.oc_coff_judge.proofs.relocs.check_table.Given as goal

abbrev pub invariant-loop-k : goal.invariant-loop-k
invariant-loop-k l = IsJudging l.aims.word l.coff l.i l.table l.k l.bytes
