use Rattle.std.proofs.Common.{◌∙◌, arith}
use Rattle.std.proofs.lemmas.List.{take_all}
use Rattle.oc_place.specs.{Placings.{placing_of}, Footprints.{footprint_of}}
use Rattle.oc_place.proofs.CheckLemmas.{placing-lengths, one_more}
use Rattle.oc_place.proofs.placements.spots_for.Goals as goal

pub loop-k-preserved : goal.loop-k-preserved
loop-k-preserved c =
    let n = c.args.object.now in
    one_more c.loop-k.spots.items c.push.new.self.items (placing_of (footprint_of n) c.args.notebook.now).spots c.loop-k.k c.spot_for.result c.in_ok-push.ensures.items c.loop-k.invariant c.spot_for.ensures

pub returns : goal.returns
returns c =
    let n = c.args.object.now in
    let all = (placing_of (footprint_of n) c.args.notebook.now).spots in
    let long = placing-lengths n c.args.notebook.now c.requires in
    let e = long.spots in
    c.loop-k.invariant ∙ take_all c.loop-k.k all (omega (arith, c.loop-k-test.false, c.section_count-k-end.ensures, e))
