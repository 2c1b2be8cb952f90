use Rattle.std.proofs.Common.{◌∙◌, None, cond, ap, get_or, sym}
use Rattle.oc_base.specs.Formats.{word_for}
use Rattle.oc_place.specs.{Placings.{at_position, spot_code}, Footprints.{plot_of}}
use Rattle.oc_place.proofs.CheckLemmas.{aligned, group_there, section_is}
use Rattle.oc_place.proofs.checks.section_code.Goals as goal

pub is_dropped-requires : goal.is_dropped-requires
is_dropped-requires c = group_there c.args.object.now c.is_object.ensures c.args.k c.section-section.result.now c.section-section.ensures _ c.requires.counted.dropped

pub returns-then-is_dropped : goal.returns-then-is_dropped
returns-then-is_dropped c =
    let n = c.args.object.now in
    let s = c.section-section.result.now in
    section_is n c.is_object.ensures c.args.k s c.section-section.ensures c.args.notebook.now
    ∙ ap (λ t. at_position c.args.k (cond t None (spot_code (word_for n.format) (plot_of s) (get_or c.args.notebook.now.spots c.args.k None)))) (sym c.is_dropped.ensures ∙ c.if-is_dropped.true)

pub spot_code-requires : goal.spot_code-requires
spot_code-requires c = aligned c.args.object.now c.is_object.ensures c.args.k c.section-section.result.now c.section-section.ensures

pub returns : goal.returns
returns c =
    let n = c.args.object.now in
    let s = c.section-section.result.now in
    section_is n c.is_object.ensures c.args.k s c.section-section.ensures c.args.notebook.now
    ∙ ap (λ t. at_position c.args.k (cond t None (spot_code (word_for n.format) (plot_of s) (get_or c.args.notebook.now.spots c.args.k None)))) (sym c.is_dropped.ensures ∙ c.if-is_dropped.false)
    ∙ ap (λ spot. at_position c.args.k (spot_code (word_for n.format) (plot_of s) spot)) (sym c.spot.ensures)
    ∙ ap (λ w. at_position c.args.k (spot_code w (plot_of s) c.spot.result)) (sym (c.word_of.ensures ∙ ap word_for c.format.ensures))
    ∙ ap (at_position c.args.k) (sym c.spot_code.ensures)
