-- With the last section all is marked.
use Rattle.std.proofs.Common.{arith}
use Rattle.oc_macho_read.proofs.PinLemmas.{marks_none, pinned_all}
use Rattle.oc_macho_read.proofs.pins.pins_of.Goals as goal

pub loop-i-init : goal.loop-i-init
loop-i-init c = marks_none c.args.frame.now c.symbol_count.result c.in_ok-marks.marks.items c.symbol_count.ensures.count c.in_ok-marks.ensures

pub returns : goal.returns
returns c =
    pinned_all c.args.frame.now c.args.keep.now c.loop-i.i c.loop-i.marks.items (omega (arith, c.loop-i-test.false, c.section_count-count.ensures.count, c.loop-i.auto.i-end)) c.loop-i.invariant
