use Rattle.std.proofs.Common.{◌≡◌, ◌-◌, ◌++◌, length}
use Rattle.oc_linking.specs.FirstFault.{first_broken}
use Rattle.oc_omf.specs.{Cursor.{name_read}, Entries.{all_read}, Known.{names_of}, SectionFaults.{name_conditions}}
use Rattle.oc_omf.proofs.EachLemmas.{each_from}
use Rattle.oc_omf_judge.proofs.names.take_names.Given as goal

-- the names so far, and those that are left, are all; what is left has the first fault of all
abbrev pub invariant-loop-at : goal.invariant-loop-at
invariant-loop-at l =
    let left = each_from name_read l.contents l.at in
    let all = each_from name_read l.contents 0 in
    record {
      taken : names_of l.names.items ++ all_read left ≡ names_of l.fn.names.items ++ all_read all;
      clean : first_broken (name_conditions (l.spot.index, l.spot.place) all) ≡ first_broken (name_conditions (l.spot.index, l.spot.place) left);
    }

abbrev pub decreases-loop-at : goal.decreases-loop-at
decreases-loop-at l = length l.contents - l.at
