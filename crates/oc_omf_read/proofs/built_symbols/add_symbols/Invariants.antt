use Rattle.std.proofs.Common.{◌≡◌}
use Rattle.oc_omf.specs.Entries.{entries_in}
use Rattle.oc_omf_read.specs.Built.{symboled}
use Rattle.oc_omf_read.proofs.built_symbols.add_symbols.Given as goal

-- the symbols before are added
abbrev pub invariant-loop-k : goal.invariant-loop-k
invariant-loop-k l = l.builder ≡ symboled (entries_in l.omf) l.k
