-- The number of the digits so far.
use Rattle.oc_coff.proofs.NameLemmas.{IsDecimal}
use Rattle.oc_coff.proofs.names.decimal_of.Given as goal

abbrev pub invariant-loop-k : goal.invariant-loop-k
invariant-loop-k l = IsDecimal l.digits l.k l.number
