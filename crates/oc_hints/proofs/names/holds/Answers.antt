-- A byte at which the text does not begin is left.
use Rattle.std.proofs.Common.{sym, ◌∙◌}
use Rattle.oc_hints.proofs.Steps.{found_here, not_here}
use Rattle.oc_hints.proofs.names.holds.Goals as goal

pub loop-at-preserved : goal.loop-at-preserved
loop-at-preserved c =
    sym (not_here c.args.text.now c.args.bytes.now c.loop-at.at c.loop-at-test.true (sym c.begins_at.ensures ∙ c.if-begins_at.false)) ∙ c.loop-at.invariant

pub returns-then-begins_at : goal.returns-then-begins_at
returns-then-begins_at c =
    sym (found_here c.args.text.now c.args.bytes.now c.loop-at.at c.loop-at-test.true (sym c.begins_at.ensures ∙ c.if-begins_at.true)) ∙ c.loop-at.invariant
