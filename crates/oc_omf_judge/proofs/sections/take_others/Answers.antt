-- Nothing is taken up.
use Rattle.std.proofs.Common.{ℕ, sym, ◌∙◌, append-nil}
use Rattle.oc_omf_judge.specs.Defined.{and_entry}
use Rattle.oc_omf.specs.Topics.{said_on}
use Rattle.oc_omf.specs.declared.topics.Topic.TheVariants as topic
use Rattle.oc_omf_judge.proofs.{DefinedLemmas.{same_defined}, StageLaws.{others_judged}}
use Rattle.oc_omf_judge.proofs.sections.take_others.Goals as goal

pub returns-in-Some-clause-stop : goal.returns-in-Some-clause-stop
returns-in-Some-clause-stop c = λ wide b t is.
    let x : ℕ × ℕ = (c.args.spot.index, c.args.spot.place) in
    others_judged t x c.args.ends c.args.spot.place wide b ∙ sym (c.judge_others.ensures t is) ∙ c.in-Some.is

pub returns-in-None-clause-taken : goal.returns-in-None-clause-taken
returns-in-None-clause-taken c = λ wide b t is.
    let x : ℕ × ℕ = (c.args.spot.index, c.args.spot.place) in (
      others_judged t x c.args.ends c.args.spot.place wide b ∙ sym (c.judge_others.ensures t is) ∙ c.in-None.is,
      same_defined t (and_entry t (said_on (topic.Others c.args.ends) c.args.spot.place wide b)) c.args.defined.now is
          (append-nil t.names) (append-nil t.segments) (append-nil t.groups) (append-nil t.pieces),
    )
