-- The entries so far have no fault, and the bytes taken are those of their fields.
use Rattle.oc_macho.specs.Framed.{table_at}
use Rattle.oc_macho_judge.proofs.RelocLemmas.{IsJudging}
use Rattle.oc_macho_judge.proofs.relocs.check_table.Given as goal

abbrev pub invariant-loop-k : goal.invariant-loop-k
invariant-loop-k l = IsJudging l.frame l.i (table_at l.frame l.i) l.k l.begins l.bytes
