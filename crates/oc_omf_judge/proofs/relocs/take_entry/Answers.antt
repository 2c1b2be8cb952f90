-- What an entry is about decides what is judged.
use Rattle.std.proofs.Common.{false, sym, subst}
use Rattle.std.proofs.lemmas.Result.{on_ok_weaker}
use Rattle.oc_omf.specs.{declared.topics.Topic.{Topic}, Topics.{said_on}}
use Rattle.oc_omf_judge.specs.Reached.{IsEntryTaken}
use Rattle.oc_omf_judge.proofs.relocs.take_entry.Goals as goal

pub returns-in-Segment-clause-taken : goal.returns-in-Segment-clause-taken
returns-in-Segment-clause-taken c =
    subst (λ (a : Topic). IsEntryTaken c.args.whole.now c.args.reached.now c.args.spot.index (said_on a c.args.spot.place c.args.wide c.args.contents.now) c.see_segment.new.reached) (sym c.in-Segment.is) (c.see_segment.ensures c.args.whole.now c.args.spot.index c.args.spot.place)

pub returns-in-Group-clause-taken : goal.returns-in-Group-clause-taken
returns-in-Group-clause-taken c =
    subst (λ (a : Topic). IsEntryTaken c.args.whole.now c.args.reached.now c.args.spot.index (said_on a c.args.spot.place c.args.wide c.args.contents.now) c.see_group.new.reached) (sym c.in-Group.is) (c.see_group.ensures c.args.wide c.args.whole.now c.args.spot.index c.args.spot.place)

pub returns-in-Externals-clause-taken : goal.returns-in-Externals-clause-taken
returns-in-Externals-clause-taken c =
    subst (λ (a : Topic). IsEntryTaken c.args.whole.now c.args.reached.now c.args.spot.index (said_on a c.args.spot.place c.args.wide c.args.contents.now) c.see_externals.new.reached) (sym c.in-Externals.is) (c.see_externals.ensures c.args.whole.now c.args.spot.index c.args.spot.place c.in-Externals._local)

pub returns-in-Communals-clause-taken : goal.returns-in-Communals-clause-taken
returns-in-Communals-clause-taken c =
    subst (λ (a : Topic). IsEntryTaken c.args.whole.now c.args.reached.now c.args.spot.index (said_on a c.args.spot.place c.args.wide c.args.contents.now) c.see_externals-in-Communals.new.reached) (sym c.in-Communals.is) (c.see_externals-in-Communals.ensures c.args.whole.now c.args.spot.index c.args.spot.place false)

pub returns-in-Data-clause-taken : goal.returns-in-Data-clause-taken
returns-in-Data-clause-taken c =
    on_ok_weaker c.see_data.result (λ taken. subst (λ (a : Topic). IsEntryTaken c.args.whole.now c.args.reached.now c.args.spot.index (said_on a c.args.spot.place c.args.wide c.args.contents.now) c.see_data.new.reached) (sym c.in-Data.is)
    (taken c.args.whole.now c.args.spot.index c.args.spot.place)) c.see_data.ensures.taken
