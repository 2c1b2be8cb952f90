-- A segment without a fault is taken up.
use Rattle.std.proofs.Common.{ℕ, ◌+◌, ◌++◌, [], ◌∷◌, refl, ◌∙◌, ap, append-nil}
use Rattle.oc_omf.specs.{Structures.{segment_read}, Topics.{said_on}}
use Rattle.oc_omf_judge.specs.Defined.{and_entry}
use Rattle.oc_omf.specs.declared.topics.Topic.TheVariants as topic
use Rattle.oc_omf_judge.proofs.{DefinedLemmas.{same_defined, segment_taken}, SegmentLemmas.{judged_by, small_segment}, StageLaws.{segment_judged, whole_read}}
use Rattle.oc_omf_judge.proofs.segments.take_segment.Goals as goal

pub returns-clause-taken : goal.returns-clause-taken
returns-clause-taken c = λ t is.
    let x : ℕ × ℕ = (c.args.spot.index, c.args.spot.place) in
    let b = c.args.contents.now in
    let s = c.in-Ok.segment in
    let small = small_segment c.len-names.result c.args.defined.now.sizes x (segment_read c.args.wide b 0) s c.in-Ok.ensures.read c.in-Ok.ensures.clean in (
      segment_judged t x c.args.spot.place c.args.wide b ∙ judged_by t c.args.defined.now c.len-names.result x (segment_read c.args.wide b 0) is (c.len-names.ensures ∙ c.args.defined.now.names.ok.0) ∙ c.in-Ok.ensures.clean,
      same_defined (record t { segments = t.segments ++ s ∷ [] }) (and_entry t (said_on topic.Segment c.args.spot.place c.args.wide b)) _
          (segment_taken t c.args.defined.now _ s is small.0 small.1 refl c.in_ok-push.ensures.items refl c.in_ok-push-2.ensures.items (ap (λ (n : ℕ). c.args.defined.now.sizes + n) c.segment_size.ensures.size) refl)
          (append-nil t.names) (ap (λ xs. t.segments ++ xs) (whole_read c.args.spot.place (segment_read c.args.wide b 0) s c.in-Ok.ensures.read)) (append-nil t.groups) (append-nil t.pieces),
    )

pub returns-in-Err-clause-stop : goal.returns-in-Err-clause-stop
returns-in-Err-clause-stop c = λ t is.
    let x : ℕ × ℕ = (c.args.spot.index, c.args.spot.place) in
    let b = c.args.contents.now in
    segment_judged t x c.args.spot.place c.args.wide b ∙ judged_by t c.args.defined.now c.len-names.result x (segment_read c.args.wide b 0) is (c.len-names.ensures ∙ c.args.defined.now.names.ok.0) ∙ c.in-Err.ensures.fault
