-- Those below the first offset are left out, and those from the second on.
use Rattle.std.proofs.Common.{◌-◌, length, take, drop, ◌∙◌, ap, arith}
use Rattle.oc_omf_write.specs.Pieces.{below}
use Rattle.oc_omf_write.proofs.PieceLemmas.{below_rises, between_is}
use Rattle.oc_omf_write.proofs.pieces.fixups_between.Goals as goal

pub range-requires-clause-order : goal.range-requires-clause-order
range-requires-clause-order c =
    let low = c.count_below.ensures.count in
    let high = c.count_below-2.ensures.count in
    let up = below_rises c.args.from c.args.to c.args.fixups.now c.requires.range in
    omega (arith, low, high, up)

pub returns : goal.returns
returns c =
    let xs = c.args.fixups.now in
    c.range.ensures
    ∙ ap (λ m. take (c.count_below-2.result - m) (drop m xs)) c.count_below.ensures.count
    ∙ ap (λ m. take (m - length (below c.args.from xs)) (drop (length (below c.args.from xs)) xs)) c.count_below-2.ensures.count
    ∙ between_is 0 c.args.from c.args.to xs c.requires.order c.requires.range
