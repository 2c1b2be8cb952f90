-- Data nested too deep, of a segment that is there or not.
use Rattle.std.proofs.Common.{Some, None, sym, ◌∙◌, ap}
use Rattle.oc_omf_judge.proofs.{DefinedLemmas.{looked_up}, PieceLemmas.{deep_lost, deep_piece}}
use Rattle.oc_omf_judge.proofs.pieces.deep_fault.Goals as goal

pub returns-in-Some : goal.returns-in-Some
returns-in-Some c = λ t is.
    let there = looked_up t c.args.defined.now c.as_slice.result.now c.args.head.segment c.segment_at.result _ is c.as_slice.ensures.value c.segment_at.ensures c.in-Some.is in
    deep_piece t (c.args.spot.index, c.args.spot.place) c.args.head _ there ∙ ap (λ f. Some f) (sym c.own_fault.ensures)

pub returns-in-None : goal.returns-in-None
returns-in-None c = λ t is.
    let there = looked_up t c.args.defined.now c.as_slice.result.now c.args.head.segment c.segment_at.result None is c.as_slice.ensures.value c.segment_at.ensures c.in-None.is in
    deep_lost t (c.args.spot.index, c.args.spot.place) c.args.head there ∙ ap (λ f. Some f) (sym c.own_fault-in-None.ensures)
