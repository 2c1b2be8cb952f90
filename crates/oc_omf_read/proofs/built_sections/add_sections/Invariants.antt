use Rattle.std.proofs.Common.{◌≡◌}
use Rattle.oc_omf.specs.{Entries.{entries_in}, Tables.{tables_of}}
use Rattle.oc_omf_read.specs.Built.{sectioned}
use Rattle.oc_omf_read.proofs.built_sections.add_sections.Given as goal

-- the sections before are added
abbrev pub invariant-loop-k : goal.invariant-loop-k
invariant-loop-k l = l.builder ≡ sectioned (tables_of (entries_in l.omf)) l.k
