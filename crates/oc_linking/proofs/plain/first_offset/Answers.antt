use Rattle.std.proofs.Common.{◌≡◌, false, sym, ◌∙◌}
use Rattle.oc_linking.specs.{Images.{passes_at, overflows}, Plain.{patches_at}}
use Rattle.oc_linking.proofs.Upto.{first_from_step}
use Rattle.oc_linking.proofs.plain.first_offset.Goals as goal

pub loop-offset-preserved : goal.loop-offset-preserved
loop-offset-preserved c =
    let fails : passes_at (overflows c.args.word) (patches_at c.args.fields.now c.args.section) c.loop-offset.offset ≡ false = sym c.overflows_at.ensures ∙ c.if-overflows_at.false in
    sym (first_from_step (passes_at (overflows c.args.word) (patches_at c.args.fields.now c.args.section)) c.loop-offset.offset c.args.size fails c.loop-offset-test.true)
    ∙ c.loop-offset.invariant
