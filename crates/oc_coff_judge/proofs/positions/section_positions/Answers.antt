-- There are no more positions than sections.
use Rattle.oc_coff.specs.Files.{tables_in}
use Rattle.std.proofs.Common.{◌+◌, sym, subst, arith}
use Rattle.oc_shelf.proofs.ReadingLaws.CollectedLemmas.{length-collected}
use Rattle.oc_coff_judge.specs.Led.{section_at}
use Rattle.oc_coff_judge.proofs.SectionPositions.{ArePlaced, bit_is, bit_low, placed_more, placed_none}
use Rattle.oc_coff_judge.proofs.positions.section_positions.Goals as goal

pub loop-i-init : goal.loop-i-init
loop-i-init c = placed_none (tables_in c.args.coff.now) c.in_ok-slots.slots c.in_ok-slots.ensures

pub overflow_add-position : goal.overflow_add-position
overflow_add-position c =
    let count = length-collected (section_at (tables_in c.args.coff.now)) c.loop-i.i in
    let next = c.loop-i.invariant.next in
    let few = c.has_few.ensures in
    let bit = bit_low c.is_carried-carried.result c.from-position.result c.from-position.ensures in
    omega (arith, count, next, few, bit, c.loop-i-test.true, c.section_count-i-end.ensures)

pub loop-i-preserved : goal.loop-i-preserved
loop-i-preserved c =
    subst (ArePlaced (tables_in c.args.coff.now) (c.loop-i.i + 1) (c.loop-i.position + c.from-position.result)) (sym c.in_ok-push.ensures.ok)
    (placed_more (tables_in c.args.coff.now) c.has_few.ensures c.loop-i.i c.loop-i.position c.from-position.result c.loop-i.slots c.is_carried-carried.result c.next_of.result c.loop-i.invariant
    (omega (arith, c.loop-i-test.true, c.section_count-i-end.ensures)) c.is_carried-carried.ensures (bit_is c.is_carried-carried.result c.from-position.result c.from-position.ensures) c.next_of.ensures)
