-- The hints of one more section.
use Rattle.oc_hints.specs.Hints.{field_hint}
use Rattle.oc_hints.proofs.Steps.{each_more}
use Rattle.oc_hints.proofs.noting.note_fields_of.Goals as goal

pub loop-at-preserved : goal.loop-at-preserved
loop-at-preserved c =
    each_more (field_hint c.args.key c.args.neutral.now) c.args.neutral.now.sections _ c.loop-at.at c.section.result.now _ _ c.section.ensures c.in_ok-note_fields_in.ensures c.loop-at.invariant
