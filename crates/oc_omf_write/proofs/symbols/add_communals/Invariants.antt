use Rattle.std.proofs.Common.{◌≡◌, ◌++◌, map}
use Rattle.std.specs.{Prelude.{filter_map}, List.{enumerate_from}}
use Rattle.oc_omf_file.specs.Outputs.{communal_output}
use Rattle.oc_omf_write.specs.Entries.{entry_for}
use Rattle.oc_omf_write.proofs.SymbolLemmas.{entries_left}
use Rattle.oc_omf_write.proofs.symbols.add_communals.Given as goal

-- the entries so far, and those that are left
abbrev pub invariant-loop-k : goal.invariant-loop-k
invariant-loop-k l = l.entries.items ++ entries_left communal_output l.neutral.symbols l.k ≡ l.fn.entries.items ++ map entry_for (filter_map communal_output (enumerate_from 0 l.neutral.symbols))
