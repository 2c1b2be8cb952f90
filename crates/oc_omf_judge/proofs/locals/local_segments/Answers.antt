-- One entry after another.
use Rattle.std.proofs.Common.{rules, ◌≤◌, length, sym, subst, arith}
use Rattle.oc_omf.specs.{Entries.{Entry, entries_in}, Tables.{Tables, tables_of}, Topics.{said_on}}
use Rattle.oc_omf_judge.specs.{Defined.{before_in}, Locals.{AreLocals}}
use Rattle.oc_omf_judge.proofs.StageLaws.{all_behind, defined_behind, entry_count, entry_here}
use Rattle.oc_omf_judge.proofs.locals.local_segments.Goals as goal

pub loop-i-init : goal.loop-i-init
unfolding tables_of
loop-i-init c = λ name. search rules

pub loop-i-preserved : goal.loop-i-preserved
loop-i-preserved c =
    let file = c.args.omf.now in
    let r = c.entry-entry.result in
    let e : Entry = said_on c.topic_of-topic.result r.place c.is_wide-wide.result r.contents in
    let there = entry_here file c.loop-i.i r c.topic_of-topic.result c.is_wide-wide.result c.entry-entry.ensures.place c.entry-entry.ensures.entry c.topic_of-topic.ensures c.is_wide-wide.ensures in
    subst (λ (t : Tables). AreLocals t.publics c.locate_entry.new.locals) (sym (defined_behind file c.loop-i.i e there)) (c.in_ok-locate_entry.ensures r.place (before_in file c.loop-i.i).publics c.loop-i.invariant)

pub returns : goal.returns
returns c =
    let file = c.args.omf.now in
    let many = entry_count file in
    let last : length (entries_in file) ≤ c.loop-i.i = omega (arith, many, c.count-i-end.ensures) in
    subst (λ (t : Tables). AreLocals t.publics c.loop-i.locals) (all_behind file c.loop-i.i last) c.loop-i.invariant
