-- With the last field all is marked.
use Rattle.std.proofs.Common.{arith}
use Rattle.oc_macho.specs.Framed.{table_at}
use Rattle.oc_macho_read.proofs.PinLemmas.{marking_all, marking_more, marking_none}
use Rattle.oc_macho_read.proofs.pins.mark_table.Goals as goal

pub loop-k-init : goal.loop-k-init
loop-k-init c = marking_none c.args.frame.now (table_at c.args.frame.now c.args.i) c.args.marks.now.items

pub mark_entry-requires-clause-begins : goal.mark_entry-requires-clause-begins
mark_entry-requires-clause-begins c = c.loop-k.invariant.begins_is

pub begins_behind-begins-requires-clause-begins : goal.begins_behind-begins-requires-clause-begins
begins_behind-begins-requires-clause-begins c = c.loop-k.invariant.begins_is

pub loop-k-preserved : goal.loop-k-preserved
loop-k-preserved c =
    marking_more c.args.frame.now (table_at c.args.frame.now c.args.i) c.loop-k.k c.loop-k.begins c.begins_behind-begins.result _ c.loop-k.marks.items c.mark_entry.new.marks.items c.loop-k.invariant c.mark_entry.ensures c.begins_behind-begins.ensures

pub returns : goal.returns
returns c =
    let long = c.requires.long in
    marking_all c.args.frame.now (table_at c.args.frame.now c.args.i) c.loop-k.k c.loop-k.begins _ c.loop-k.marks.items c.loop-k.invariant (omega (arith, c.loop-k-test.false, c.loop-k.auto.k-end, long))
