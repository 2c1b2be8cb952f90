use Rattle.std.proofs.Common.{◌≡◌, ◌-◌, length}
use Rattle.oc_omf.specs.Structures.{member_read}
use Rattle.oc_omf_judge.specs.Members.{members_in}
use Rattle.oc_omf.proofs.EachLemmas.{each_from}
use Rattle.oc_omf_judge.proofs.MemberLemmas.{both}
use Rattle.oc_omf_judge.proofs.groups.members_from.Given as goal

-- what is wrong so far, or with what is left, is what is wrong
abbrev pub invariant-loop-at : goal.invariant-loop-at
invariant-loop-at l =
    both l.members (members_in l.segments (each_from member_read l.contents l.at)) ≡ members_in l.segments (each_from member_read l.contents l.fn.at)

abbrev pub decreases-loop-at : goal.decreases-loop-at
decreases-loop-at l = length l.contents - l.at
