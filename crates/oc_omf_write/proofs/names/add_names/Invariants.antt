use Rattle.std.proofs.Common.{map}
use Rattle.oc_omf_write.specs.Names.{text_by}
use Rattle.oc_omf_write.proofs.FillLemmas.{IsFilling}
use Rattle.oc_omf_write.proofs.names.add_names.Given as goal

-- the entries of the names so far, but for the last ones
abbrev pub invariant-loop-k : goal.invariant-loop-k
invariant-loop-k l = IsFilling (map (text_by l.sections) l.names) l.fn.entries.items l.entries.items l.from l.k l.size
