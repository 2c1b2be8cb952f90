use Rattle.oc_omf_write.specs.Names.{AreUpto}
use Rattle.oc_omf_write.proofs.names.Names.of.Given as goal

-- the names of the sections so far
abbrev pub invariant-loop-k : goal.invariant-loop-k
invariant-loop-k l = AreUpto l.sections l.k l.names
