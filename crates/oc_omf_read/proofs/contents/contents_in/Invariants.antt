use Rattle.oc_omf.specs.{Entries.{entries_in}, Tables.{tables_of}}
use Rattle.oc_omf_read.specs.Contents.{AreStored}
use Rattle.oc_omf_read.proofs.DefinedLemmas.{tables_upto}
use Rattle.oc_omf_read.proofs.contents.contents_in.Given as goal

-- the data before are laid over zeros
abbrev pub invariant-loop-i : goal.invariant-loop-i
invariant-loop-i l = AreStored (tables_of (entries_in l.omf)) (tables_upto l.omf l.i) l.bytes.items
