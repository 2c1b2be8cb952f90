-- One that is read is taken up.
use Rattle.std.proofs.Common.{refl, sym, ◌∙◌, ap}
use Rattle.oc_omf.specs.{Cursor.{Reading}, declared.structures.Segment.{Segment}}
use Rattle.oc_omf_judge.specs.Defined.{part_of}
use Rattle.oc_omf_judge.proofs.SeenEntry.{segment_lost, segment_seen}
use Rattle.oc_omf_judge.proofs.symbol_loop.see_segment.Goals as goal

pub returns-in_ok-push-in-Ok-clause-taken : goal.returns-in_ok-push-in-Ok-clause-taken
returns-in_ok-push-in-Ok-clause-taken c = λ known index place.
    segment_seen known c.args.seen.now _ index place c.args.wide c.args.contents.now c.in-Ok.segment
    (ap (λ (r : Reading Segment). part_of r) (sym c.read_segment.ensures ∙ c.in-Ok.is)) c.in_ok-push-in-Ok.ensures.items refl refl refl refl refl

pub returns-in-Err-clause-taken : goal.returns-in-Err-clause-taken
returns-in-Err-clause-taken c = λ known index place.
    segment_lost known c.args.seen.now index place c.args.wide c.args.contents.now c.in-Err.field-0 (sym c.read_segment.ensures ∙ c.in-Err.is)
