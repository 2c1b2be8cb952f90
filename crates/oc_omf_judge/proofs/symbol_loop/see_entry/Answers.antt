-- What an entry is about decides what is judged.
use Rattle.std.proofs.Common.{Bool, refl, sym, subst}
use Rattle.std.proofs.lemmas.Result.{IfErr-weaker, on_ok_weaker}
use Rattle.oc_omf.specs.{declared.topics.Topic.{Topic}, Cursor.{each_read}, Entries.{in_file}, Structures.{communal_read, external_read}, Topics.{said_on}}
use Rattle.oc_omf.specs.declared.topics.Topic.TheVariants as topic
use Rattle.oc_omf_judge.specs.{NameNumbers.{NameNumbers}, EarlierSymbols.{AreExternalsStopped, IsSeenThere, IsStoppedAnywhere, IsStoppedThere}}
use Rattle.oc_omf_judge.proofs.SeenEntry.{communals_seen, communals_stop, externals_seen, externals_stop, nothing_seen}
use Rattle.oc_omf_judge.proofs.symbol_loop.see_entry.Goals as goal

pub returns-in-Segment-clause-taken : goal.returns-in-Segment-clause-taken
returns-in-Segment-clause-taken c =
    on_ok_weaker c.see_segment.result (λ seen. subst (λ (a : Topic). IsSeenThere c.args.known.now c.args.seen.now c.args.spot a c.args.wide c.args.contents.now c.see_segment.new.seen) (sym c.in-Segment.is) (seen c.args.known.now c.args.spot.index c.args.spot.place)) c.see_segment.ensures.taken

pub returns-in-Segment-clause-stop : goal.returns-in-Segment-clause-stop
returns-in-Segment-clause-stop c =
    IfErr-weaker c.see_segment.result (IsStoppedAnywhere c.args.seen.now topic.Segment c.args.wide c.args.contents.now)
    (IsStoppedThere c.args.known.now c.args.seen.now c.args.spot c.args.topic c.args.wide c.args.contents.now)
    (λ s stopped. subst (λ (a : Topic). IsStoppedThere c.args.known.now c.args.seen.now c.args.spot a c.args.wide c.args.contents.now s) (sym c.in-Segment.is) (stopped c.args.known.now c.args.spot.index c.args.spot.place)) c.see_segment.ensures.stop

pub returns-in-Group-clause-taken : goal.returns-in-Group-clause-taken
returns-in-Group-clause-taken c =
    on_ok_weaker c.see_group.result (λ seen. subst (λ (a : Topic). IsSeenThere c.args.known.now c.args.seen.now c.args.spot a c.args.wide c.args.contents.now c.see_group.new.seen) (sym c.in-Group.is) (seen c.args.wide c.args.known.now c.args.spot.index c.args.spot.place)) c.see_group.ensures.taken

pub returns-in-Group-clause-stop : goal.returns-in-Group-clause-stop
returns-in-Group-clause-stop c =
    IfErr-weaker c.see_group.result (λ s. (wide : Bool) → IsStoppedAnywhere c.args.seen.now topic.Group wide c.args.contents.now s)
    (IsStoppedThere c.args.known.now c.args.seen.now c.args.spot c.args.topic c.args.wide c.args.contents.now)
    (λ s stopped. subst (λ (a : Topic). IsStoppedThere c.args.known.now c.args.seen.now c.args.spot a c.args.wide c.args.contents.now s) (sym c.in-Group.is) (stopped c.args.wide c.args.known.now c.args.spot.index c.args.spot.place)) c.see_group.ensures.stop

pub returns-in-Publics-clause-taken : goal.returns-in-Publics-clause-taken
returns-in-Publics-clause-taken c =
    on_ok_weaker c.take_public_entry.result (λ seen. subst (λ (a : Topic). IsSeenThere c.args.known.now c.args.seen.now c.args.spot a c.args.wide c.args.contents.now c.take_public_entry.new.seen) (sym c.in-Publics.is) (seen c.args.known.now)) c.take_public_entry.ensures.taken

pub returns-in-Publics-clause-stop : goal.returns-in-Publics-clause-stop
returns-in-Publics-clause-stop c =
    IfErr-weaker c.take_public_entry.result (λ s. (known : NameNumbers) → IsStoppedThere known c.args.seen.now c.args.spot (topic.Publics c.in-Publics.local) c.args.wide c.args.contents.now s)
    (IsStoppedThere c.args.known.now c.args.seen.now c.args.spot c.args.topic c.args.wide c.args.contents.now)
    (λ s stopped. subst (λ (a : Topic). IsStoppedThere c.args.known.now c.args.seen.now c.args.spot a c.args.wide c.args.contents.now s) (sym c.in-Publics.is) (stopped c.args.known.now)) c.take_public_entry.ensures.stop

pub returns-in-Externals-clause-taken : goal.returns-in-Externals-clause-taken
returns-in-Externals-clause-taken c =
    on_ok_weaker c.take_externals.result (λ seen. subst (λ (a : Topic). IsSeenThere c.args.known.now c.args.seen.now c.args.spot a c.args.wide c.args.contents.now c.take_externals.new.seen) (sym c.in-Externals.is)
    (externals_seen c.args.known.now c.args.seen.now c.take_externals.new.seen c.args.spot.index c.in-Externals.local c.args.spot.place c.args.wide c.args.contents.now seen)) c.take_externals.ensures.taken

pub returns-in-Externals-clause-stop : goal.returns-in-Externals-clause-stop
returns-in-Externals-clause-stop c =
    IfErr-weaker c.take_externals.result (λ s. AreExternalsStopped c.args.known.now c.args.seen.now c.args.spot.index (in_file c.args.spot.place (each_read (external_read c.in-Externals.local) c.args.contents.now 0)) s)
    (IsStoppedThere c.args.known.now c.args.seen.now c.args.spot c.args.topic c.args.wide c.args.contents.now)
    (λ s stopped. subst (λ (a : Topic). IsStoppedThere c.args.known.now c.args.seen.now c.args.spot a c.args.wide c.args.contents.now s) (sym c.in-Externals.is)
    (externals_stop c.args.known.now c.args.seen.now c.args.spot.index c.in-Externals.local c.args.spot.place c.args.wide c.args.contents.now s stopped)) c.take_externals.ensures.stop

pub returns-in-Communals-clause-taken : goal.returns-in-Communals-clause-taken
returns-in-Communals-clause-taken c =
    on_ok_weaker c.take_communals.result (λ seen. subst (λ (a : Topic). IsSeenThere c.args.known.now c.args.seen.now c.args.spot a c.args.wide c.args.contents.now c.take_communals.new.seen) (sym c.in-Communals.is)
    (communals_seen c.args.known.now c.args.seen.now c.take_communals.new.seen c.args.spot.index c.args.spot.place c.args.wide c.args.contents.now (seen c.args.known.now))) c.take_communals.ensures.taken

pub returns-in-Communals-clause-stop : goal.returns-in-Communals-clause-stop
returns-in-Communals-clause-stop c =
    IfErr-weaker c.take_communals.result (λ s. (known : NameNumbers) → AreExternalsStopped known c.args.seen.now c.args.spot.index (in_file c.args.spot.place (each_read communal_read c.args.contents.now 0)) s)
    (IsStoppedThere c.args.known.now c.args.seen.now c.args.spot c.args.topic c.args.wide c.args.contents.now)
    (λ s stopped. subst (λ (a : Topic). IsStoppedThere c.args.known.now c.args.seen.now c.args.spot a c.args.wide c.args.contents.now s) (sym c.in-Communals.is)
    (communals_stop c.args.known.now c.args.seen.now c.args.spot.index c.args.spot.place c.args.wide c.args.contents.now s (stopped c.args.known.now))) c.take_communals.ensures.stop

pub returns-in-Names-clause-taken : goal.returns-in-Names-clause-taken
returns-in-Names-clause-taken c =
    subst (λ (a : Topic). IsSeenThere c.args.known.now c.args.seen.now c.args.spot a c.args.wide c.args.contents.now c.args.seen.now) (sym c.in-Names.is)
    (nothing_seen c.args.known.now c.args.seen.now c.args.spot.index (said_on topic.Names c.args.spot.place c.args.wide c.args.contents.now) refl refl refl refl refl)

pub returns-in-Data-clause-taken : goal.returns-in-Data-clause-taken
returns-in-Data-clause-taken c =
    subst (λ (a : Topic). IsSeenThere c.args.known.now c.args.seen.now c.args.spot a c.args.wide c.args.contents.now c.args.seen.now) (sym c.in-Data.is)
    (nothing_seen c.args.known.now c.args.seen.now c.args.spot.index (said_on (topic.Data c.in-Data._iterated) c.args.spot.place c.args.wide c.args.contents.now) refl refl refl refl refl)

pub returns-in-Fixups-clause-taken : goal.returns-in-Fixups-clause-taken
returns-in-Fixups-clause-taken c =
    subst (λ (a : Topic). IsSeenThere c.args.known.now c.args.seen.now c.args.spot a c.args.wide c.args.contents.now c.args.seen.now) (sym c.in-Fixups.is)
    (nothing_seen c.args.known.now c.args.seen.now c.args.spot.index (said_on topic.Fixups c.args.spot.place c.args.wide c.args.contents.now) refl refl refl refl refl)

pub returns-in-Others-clause-taken : goal.returns-in-Others-clause-taken
returns-in-Others-clause-taken c =
    subst (λ (a : Topic). IsSeenThere c.args.known.now c.args.seen.now c.args.spot a c.args.wide c.args.contents.now c.args.seen.now) (sym c.in-Others.is)
    (nothing_seen c.args.known.now c.args.seen.now c.args.spot.index (said_on (topic.Others c.in-Others._ends) c.args.spot.place c.args.wide c.args.contents.now) refl refl refl refl refl)
