use Rattle.std.proofs.Common.{◌∙◌, Some, None, cond, ap, get_or, sym}
use Rattle.std.specs.Option.{unwrap_or}
use Rattle.oc_place.specs.Placings.{origin}
use Rattle.oc_place.proofs.CheckLemmas.{group_there, spot_is}
use Rattle.oc_place.proofs.placements.spot_for.Goals as goal

pub is_dropped-requires : goal.is_dropped-requires
is_dropped-requires c = group_there c.args.object.now c.is_object.ensures c.args.k c.section.result.now c.section.ensures _ c.requires.counted.dropped

pub returns-then-is_dropped : goal.returns-then-is_dropped
returns-then-is_dropped c =
    spot_is c.args.object.now c.is_object.ensures c.args.k c.section.result.now c.section.ensures c.args.notebook.now
    ∙ ap (λ t. Some (cond t origin (unwrap_or (get_or c.args.notebook.now.spots c.args.k None) origin))) (sym c.is_dropped.ensures ∙ c.if-is_dropped.true)

pub returns : goal.returns
returns c =
    spot_is c.args.object.now c.is_object.ensures c.args.k c.section.result.now c.section.ensures c.args.notebook.now
    ∙ ap (λ t. Some (cond t origin (unwrap_or (get_or c.args.notebook.now.spots c.args.k None) origin))) (sym c.is_dropped.ensures ∙ c.if-is_dropped.false)
    ∙ ap (λ o. Some (unwrap_or o origin)) (sym c.spot.ensures) ∙ ap Some (sym c.unwrap_or.ensures)
