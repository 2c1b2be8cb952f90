use Rattle.std.proofs.Common.{◌≡◌, ◌-◌, ◌++◌, length, map}
use Rattle.oc_omf.specs.{Entries.{all_read}, Structures.{public_read}}
use Rattle.oc_omf.proofs.EachLemmas.{each_from}
use Rattle.oc_omf_read.specs.Declarations.{all_declarations, of_public}
use Rattle.oc_omf_read.proofs.declarations.declare_publics_at.Given as goal

-- the mentions so far, and those that are left, are all
abbrev pub invariant-loop-at : goal.invariant-loop-at
invariant-loop-at l = all_declarations l.declarations.items ++ map of_public (all_read (each_from (public_read l.wide l.local l.segment) l.contents l.at)) ≡ all_declarations l.fn.declarations.items ++ map of_public (all_read (each_from (public_read l.wide l.local l.segment) l.contents l.start))

abbrev pub decreases-loop-at : goal.decreases-loop-at
decreases-loop-at l = length l.contents - l.at
