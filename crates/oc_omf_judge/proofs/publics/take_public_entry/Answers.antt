-- The base, and then the definitions.
use Rattle.std.proofs.Common.{◌≡◌, ◌++◌, Ok, Some, sym, ◌∙◌, ap, subst, append-nil}
use Rattle.oc_base.specs.Stops.{IsStop}
use Rattle.oc_linking.specs.Numbers.{or_else}
use Rattle.oc_omf.specs.{Cursor.{Reading}, declared.structures.PublicBase.{PublicBase}, Structures.{base_read}, Entries.{all_read}}
use Rattle.oc_omf.specs.Topics.{publics_on, said_on}
use Rattle.oc_omf.specs.declared.topics.Topic.TheVariants as topic
use Rattle.oc_omf_judge.specs.{Defined.{and_entry}, EarlierSymbols.{public_behind, walked}}
use Rattle.oc_omf_judge.proofs.{SeenEntry.{base_by, same_seen}, SeenLemmas.{base_verdict, publics_judged}}
use Rattle.oc_omf_judge.proofs.publics.take_public_entry.Goals as goal

pub returns-in-Err-clause-stop : goal.returns-in-Err-clause-stop
returns-in-Err-clause-stop c = λ known all t names is.
    let b = c.args.contents.now in
    let index = c.args.spot.index in
    let place = c.args.spot.place in
    publics_judged all t index c.args.local place c.args.wide b
    ∙ ap (λ (r : Reading PublicBase). base_verdict t (index, place) r (walked (public_behind t) index t.publics (publics_on c.args.local place c.args.wide b r))) (sym c.read_base.ensures ∙ c.in-Err.is)
    ∙ ap (λ f. Some f) (sym c.cut_fault.ensures)

pub returns-in-Some-clause-stop : goal.returns-in-Some-clause-stop
returns-in-Some-clause-stop c = λ known all t names is.
    let b = c.args.contents.now in
    let index = c.args.spot.index in
    let place = c.args.spot.place in
    publics_judged all t index c.args.local place c.args.wide b
    ∙ ap (λ (r : Reading PublicBase). base_verdict t (index, place) r (walked (public_behind t) index t.publics (publics_on c.args.local place c.args.wide b r))) (sym c.read_base.ensures ∙ c.in-Ok.is)
    ∙ ap (λ o. or_else o (walked (public_behind t) index t.publics (publics_on c.args.local place c.args.wide b (Ok c.in-Ok.read))))
    (base_by t c.args.seen.now c.len-groups.result c.len-segments.result (index, place) c.in-Ok.read.0 is (c.len-groups.ensures ∙ c.args.seen.now.groups.ok.0) (c.len-segments.ensures ∙ c.args.seen.now.segments.ok.0)
    ∙ sym c.base_fault.ensures ∙ c.in-Some.is)

pub returns-in-Ok-take_publics-clause-taken : goal.returns-in-Ok-take_publics-clause-taken
returns-in-Ok-take_publics-clause-taken c = λ known all t names is.
    let b = c.args.contents.now in
    let index = c.args.spot.index in
    let place = c.args.spot.place in
    let read : base_read b 0 ≡ Ok c.in-Ok.read = sym c.read_base.ensures ∙ c.in-Ok.is in
    let w = c.in-Ok-take_publics.ensures.taken t is in (
      publics_judged all t index c.args.local place c.args.wide b
          ∙ ap (λ (r : Reading PublicBase). base_verdict t (index, place) r (walked (public_behind t) index t.publics (publics_on c.args.local place c.args.wide b r))) read
          ∙ ap (λ o. or_else o (walked (public_behind t) index t.publics (publics_on c.args.local place c.args.wide b (Ok c.in-Ok.read))))
          (base_by t c.args.seen.now c.len-groups.result c.len-segments.result (index, place) c.in-Ok.read.0 is (c.len-groups.ensures ∙ c.args.seen.now.groups.ok.0) (c.len-segments.ensures ∙ c.args.seen.now.segments.ok.0)
          ∙ sym c.base_fault.ensures ∙ c.in-None.is)
          ∙ w.0,
      same_seen _ (and_entry t (said_on (topic.Publics c.args.local) place c.args.wide b)) c.take_publics.new.seen w.1 (append-nil t.segments) (append-nil t.groups)
          (ap (λ (r : Reading PublicBase). t.publics ++ all_read (publics_on c.args.local place c.args.wide b r)) read) (append-nil t.externals),
    )

pub returns-in-Err-take_publics-clause-stop : goal.returns-in-Err-take_publics-clause-stop
returns-in-Err-take_publics-clause-stop c = λ known all t names is.
    let b = c.args.contents.now in
    let index = c.args.spot.index in
    let place = c.args.spot.place in
    let read : base_read b 0 ≡ Ok c.in-Ok.read = sym c.read_base.ensures ∙ c.in-Ok.is in
    subst (λ o. IsStop o c.in-Err-take_publics.stop) (sym (publics_judged all t index c.args.local place c.args.wide b
    ∙ ap (λ (r : Reading PublicBase). base_verdict t (index, place) r (walked (public_behind t) index t.publics (publics_on c.args.local place c.args.wide b r))) read
    ∙ ap (λ o. or_else o (walked (public_behind t) index t.publics (publics_on c.args.local place c.args.wide b (Ok c.in-Ok.read))))
    (base_by t c.args.seen.now c.len-groups.result c.len-segments.result (index, place) c.in-Ok.read.0 is (c.len-groups.ensures ∙ c.args.seen.now.groups.ok.0) (c.len-segments.ensures ∙ c.args.seen.now.segments.ok.0)
    ∙ sym c.base_fault.ensures ∙ c.in-None.is))) (c.in-Err-take_publics.ensures.stop t is)
