use Rattle.std.proofs.Common.{◌<◌, ◌≤◌, length, sym, ◌∙◌, ap, arith}
use Rattle.oc_omf.specs.Structures.{member_read}
use Rattle.oc_omf_judge.specs.Members.{members_in}
use Rattle.oc_omf.proofs.EachLemmas.{each_behind, each_cut, each_end, each_from, each_more, member_goes}
use Rattle.oc_omf_judge.proofs.MemberLemmas.{both, member_cut, member_more, member_none}
use Rattle.oc_omf_judge.proofs.groups.members_from.Goals as goal

pub loop-at-smaller : goal.loop-at-smaller
loop-at-smaller c =
    let low : c.loop-at.at < length c.args.contents.now = omega arith in
    let p = member_goes c.args.contents.now c.loop-at.at (c.in-Ok.mark, c.in-Ok.segment) c.in-Ok.after (sym c.read_member.ensures ∙ c.in-Ok.is) in
    omega (arith, low, p.0, p.1)

pub loop-at-preserved : goal.loop-at-preserved
loop-at-preserved c =
    let b = c.args.contents.now in
    let low : c.loop-at.at < length b = omega arith in
    let more = each_more member_read b (member_goes b) c.loop-at.at low (c.in-Ok.mark, c.in-Ok.segment) c.in-Ok.after (sym c.read_member.ensures ∙ c.in-Ok.is) in
    ap (λ m. both m (members_in c.args.segments (each_from member_read b c.in-Ok.after))) c.with_member-members.ensures
    ∙ member_more c.args.segments c.loop-at.members c.in-Ok.mark c.in-Ok.segment c.loop-at.at (each_from member_read b c.in-Ok.after)
    ∙ ap (λ xs. both c.loop-at.members (members_in c.args.segments xs)) (sym more) ∙ c.loop-at.invariant

pub returns-in-Err : goal.returns-in-Err
returns-in-Err c =
    let b = c.args.contents.now in
    let low : c.loop-at.at < length b = omega arith in
    let last = each_cut member_read b (member_goes b) c.loop-at.at low c.in-Err.field-0 (sym c.read_member.ensures ∙ c.in-Err.is) in
    sym (member_cut c.loop-at.members) ∙ ap (λ xs. both c.loop-at.members (members_in c.args.segments xs)) (sym last) ∙ c.loop-at.invariant
    ∙ ap (members_in c.args.segments) (sym (each_behind member_read b c.args.at (member_goes b)))

pub returns : goal.returns
returns c =
    let b = c.args.contents.now in
    let high : length b ≤ c.loop-at.at = omega arith in
    sym (member_none c.loop-at.members) ∙ ap (λ xs. both c.loop-at.members (members_in c.args.segments xs)) (sym (each_end member_read b c.loop-at.at high)) ∙ c.loop-at.invariant
    ∙ ap (members_in c.args.segments) (sym (each_behind member_read b c.args.at (member_goes b)))
