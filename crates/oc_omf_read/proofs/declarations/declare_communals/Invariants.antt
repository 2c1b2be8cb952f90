use Rattle.std.proofs.Common.{◌≡◌, ◌-◌, ◌++◌, length, map}
use Rattle.oc_omf.specs.{Entries.{all_read}, Structures.{communal_read}}
use Rattle.oc_omf.proofs.EachLemmas.{each_from}
use Rattle.oc_omf_read.specs.Declarations.{all_declarations, of_external}
use Rattle.oc_omf_read.proofs.declarations.declare_communals.Given as goal

-- the mentions so far, and those that are left, are all
abbrev pub invariant-loop-at : goal.invariant-loop-at
invariant-loop-at l = all_declarations l.declarations.items ++ map of_external (all_read (each_from communal_read l.contents l.at)) ≡ all_declarations l.fn.declarations.items ++ map of_external (all_read (each_from communal_read l.contents 0))

abbrev pub decreases-loop-at : goal.decreases-loop-at
decreases-loop-at l = length l.contents - l.at
