use Rattle.std.proofs.Common.{◌∙◌, Some, ap, arith, sym}
use Rattle.std.proofs.lemmas.List.{take_all}
use Rattle.oc_place.specs.{Placings.{placing_of}, Footprints.{footprint_of}}
use Rattle.oc_place.proofs.CheckLemmas.{given_is, placing-lengths, one_more}
use Rattle.oc_place.proofs.placements.given_for.Goals as goal

pub loop-k-preserved : goal.loop-k-preserved
loop-k-preserved c =
    let n = c.args.object.now in
    one_more c.loop-k.given.items c.push.new.self.items (placing_of (footprint_of n) c.args.notebook.now).given c.loop-k.k c.given.result c.in_ok-push.ensures.items c.loop-k.invariant
    (given_is n c.args.notebook.now c.loop-k.k (omega (arith, c.loop-k-test.true, c.symbol_count-k-end.ensures)) ∙ ap Some (sym c.given.ensures))

pub returns : goal.returns
returns c =
    let n = c.args.object.now in
    let all = (placing_of (footprint_of n) c.args.notebook.now).given in
    let long = placing-lengths n c.args.notebook.now c.requires in
    let e = long.given in
    c.loop-k.invariant ∙ take_all c.loop-k.k all (omega (arith, c.loop-k-test.false, c.symbol_count-k-end.ensures, e))
