-- Symbols, threads and fixups are judged later.
use Rattle.std.proofs.Common.{ℕ, Bool, List, refl, sym, subst}
use Rattle.std.proofs.lemmas.Result.{IfErr-weaker, on_ok_weaker}
use Rattle.oc_omf.specs.{declared.topics.Topic.{Topic}, Topics.{said_on}}
use Rattle.oc_omf.specs.declared.topics.Topic.TheVariants as topic
use Rattle.oc_omf_judge.specs.Defined.{IsStoppedOn, IsTakenOn}
use Rattle.oc_omf_judge.proofs.LaterLemmas.{nothing_taken}
use Rattle.oc_omf_judge.proofs.sections.take_entry.Goals as goal

pub returns-in-Publics-clause-taken : goal.returns-in-Publics-clause-taken
returns-in-Publics-clause-taken c =
    let x : ℕ × ℕ = (c.args.spot.index, c.args.spot.place) in
    subst (λ (a : Topic). IsTakenOn c.args.defined.now c.args.spot a c.args.wide c.args.contents.now c.args.defined.now) (sym c.in-Publics.is)
    (nothing_taken c.args.defined.now x (said_on (topic.Publics c.in-Publics._local) c.args.spot.place c.args.wide c.args.contents.now) refl refl refl refl refl)

pub returns-in-Externals-clause-taken : goal.returns-in-Externals-clause-taken
returns-in-Externals-clause-taken c =
    let x : ℕ × ℕ = (c.args.spot.index, c.args.spot.place) in
    subst (λ (a : Topic). IsTakenOn c.args.defined.now c.args.spot a c.args.wide c.args.contents.now c.args.defined.now) (sym c.in-Externals.is)
    (nothing_taken c.args.defined.now x (said_on (topic.Externals c.in-Externals._local) c.args.spot.place c.args.wide c.args.contents.now) refl refl refl refl refl)

pub returns-in-Communals-clause-taken : goal.returns-in-Communals-clause-taken
returns-in-Communals-clause-taken c =
    let x : ℕ × ℕ = (c.args.spot.index, c.args.spot.place) in
    subst (λ (a : Topic). IsTakenOn c.args.defined.now c.args.spot a c.args.wide c.args.contents.now c.args.defined.now) (sym c.in-Communals.is)
    (nothing_taken c.args.defined.now x (said_on topic.Communals c.args.spot.place c.args.wide c.args.contents.now) refl refl refl refl refl)

pub returns-in-Fixups-clause-taken : goal.returns-in-Fixups-clause-taken
returns-in-Fixups-clause-taken c =
    let x : ℕ × ℕ = (c.args.spot.index, c.args.spot.place) in
    subst (λ (a : Topic). IsTakenOn c.args.defined.now c.args.spot a c.args.wide c.args.contents.now c.args.defined.now) (sym c.in-Fixups.is)
    (nothing_taken c.args.defined.now x (said_on topic.Fixups c.args.spot.place c.args.wide c.args.contents.now) refl refl refl refl refl)

pub returns-in-Names-clause-taken : goal.returns-in-Names-clause-taken
returns-in-Names-clause-taken c =
    on_ok_weaker c.take_name_entry.result
    (λ taken. subst (λ (a : Topic). IsTakenOn c.args.defined.now c.args.spot a c.args.wide c.args.contents.now c.take_name_entry.new.defined) (sym c.in-Names.is) (taken c.args.wide)) c.take_name_entry.ensures.taken

pub returns-in-Names-clause-stop : goal.returns-in-Names-clause-stop
returns-in-Names-clause-stop c =
    IfErr-weaker c.take_name_entry.result (λ s. (wide : Bool) → IsStoppedOn c.args.defined.now c.args.spot topic.Names wide c.args.contents.now s)
    (IsStoppedOn c.args.defined.now c.args.spot c.args.topic c.args.wide c.args.contents.now)
    (λ s stopped. subst (λ (a : Topic). IsStoppedOn c.args.defined.now c.args.spot a c.args.wide c.args.contents.now s) (sym c.in-Names.is) (stopped c.args.wide)) c.take_name_entry.ensures.stop

pub returns-in-Group-clause-taken : goal.returns-in-Group-clause-taken
returns-in-Group-clause-taken c =
    on_ok_weaker c.take_group.result
    (λ taken. subst (λ (a : Topic). IsTakenOn c.args.defined.now c.args.spot a c.args.wide c.args.contents.now c.take_group.new.defined) (sym c.in-Group.is) (taken c.args.wide)) c.take_group.ensures.taken

pub returns-in-Group-clause-stop : goal.returns-in-Group-clause-stop
returns-in-Group-clause-stop c =
    IfErr-weaker c.take_group.result (λ s. (wide : Bool) → IsStoppedOn c.args.defined.now c.args.spot topic.Group wide c.args.contents.now s)
    (IsStoppedOn c.args.defined.now c.args.spot c.args.topic c.args.wide c.args.contents.now)
    (λ s stopped. subst (λ (a : Topic). IsStoppedOn c.args.defined.now c.args.spot a c.args.wide c.args.contents.now s) (sym c.in-Group.is) (stopped c.args.wide)) c.take_group.ensures.stop

pub returns-in-Others-clause-taken : goal.returns-in-Others-clause-taken
returns-in-Others-clause-taken c =
    on_ok_weaker c.take_others.result
    (λ taken. subst (λ (a : Topic). IsTakenOn c.args.defined.now c.args.spot a c.args.wide c.args.contents.now c.take_others.new.defined) (sym c.in-Others.is) (taken c.args.wide c.args.contents.now)) c.take_others.ensures.taken

pub returns-in-Others-clause-stop : goal.returns-in-Others-clause-stop
returns-in-Others-clause-stop c =
    IfErr-weaker c.take_others.result (λ s. (wide : Bool) (b : List ℕ) → IsStoppedOn c.args.defined.now c.args.spot (topic.Others c.in-Others.ends) wide b s)
    (IsStoppedOn c.args.defined.now c.args.spot c.args.topic c.args.wide c.args.contents.now)
    (λ s stopped. subst (λ (a : Topic). IsStoppedOn c.args.defined.now c.args.spot a c.args.wide c.args.contents.now s) (sym c.in-Others.is) (stopped c.args.wide c.args.contents.now)) c.take_others.ensures.stop
