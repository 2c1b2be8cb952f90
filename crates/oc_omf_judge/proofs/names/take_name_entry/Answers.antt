-- Names are judged and taken up by themselves.
use Rattle.std.proofs.Common.{◌++◌, refl, sym, ◌∙◌, ap, subst, append-nil}
use Rattle.oc_base.specs.Stops.{IsStop}
use Rattle.oc_omf.specs.{Cursor.{each_read, name_read}, Entries.{all_read}, Topics.{said_on}}
use Rattle.oc_omf_judge.specs.Defined.{and_entry}
use Rattle.oc_omf.specs.declared.topics.Topic.TheVariants as topic
use Rattle.oc_omf_judge.proofs.{DefinedLemmas.{names_taken, same_defined}, StageLaws.{names_judged, read_in_file}}
use Rattle.oc_omf_judge.proofs.names.take_name_entry.Goals as goal

pub returns-in-Ok-clause-taken : goal.returns-in-Ok-clause-taken
returns-in-Ok-clause-taken c = λ wide t is.
    let b = c.args.contents.now in
    let names = all_read (each_read name_read b 0) in (
      names_judged t (c.args.spot.index, c.args.spot.place) c.args.spot.place wide b ∙ c.in-Ok.ensures.clean,
      same_defined (record t { names = t.names ++ names }) (and_entry t (said_on topic.Names c.args.spot.place wide b)) _
          (names_taken t c.args.defined.now _ names is c.in-Ok.ensures.taken refl refl refl refl refl)
          (ap (λ xs. t.names ++ xs) (read_in_file c.args.spot.place (each_read name_read b 0))) (append-nil t.segments) (append-nil t.groups) (append-nil t.pieces),
    )

pub returns-in-Err-clause-stop : goal.returns-in-Err-clause-stop
returns-in-Err-clause-stop c = λ wide t is.
    subst (λ o. IsStop o c.in-Err.stop) (sym (names_judged t (c.args.spot.index, c.args.spot.place) c.args.spot.place wide c.args.contents.now)) c.in-Err.ensures.stop
