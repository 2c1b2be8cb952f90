-- What is listed so far, and what will be of the addresses that are left, is what is listed of all.
use Rattle.std.proofs.Common.{◌≡◌, ◌++◌}
use Rattle.std.specs.List.{filter_map}
use Rattle.oc_macho_judge.specs.Holders.{edge_of}
use Rattle.oc_macho_judge.proofs.holders.list_edges.Given as goal

abbrev pub invariant-loop-at : goal.invariant-loop-at
invariant-loop-at l = l.list.items ++ filter_map (edge_of l.bytes.entries) l.at-iterator ≡ filter_map (edge_of l.bytes.entries) l.edges.entries
