use Rattle.std.proofs.Common.{sym, ◌∙◌, length, arith}
use Rattle.oc_drop.specs.Dropping.{section_fault}
use Rattle.oc_drop.proofs.Stopping.{told_first}
use Rattle.oc_drop.proofs.judging.references_fault.Goals as goal

pub returns-then-is_some : goal.returns-then-is_some
returns-then-is_some c =
    told_first (section_fault c.args.stay.now c.args.neutral.now) c.loop-at.at (length c.args.neutral.now.sections) c.section_fault-fault.result c.loop-at.invariant
    c.section_fault-fault.ensures (sym c.is_some.ensures ∙ c.if-is_some.true) (omega (arith, c.loop-at-test.true, c.section_count-at-end.ensures))
