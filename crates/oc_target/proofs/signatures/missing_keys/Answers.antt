use Rattle.std.proofs.Common.{refl, ◌∙◌, ap}
use Rattle.std.specs.Prelude.{not}
use Rattle.oc_neutral.specs.{declared.group.Group.{Group}, Building.{has_name}}
use Rattle.oc_target.proofs.Counting.{counted_next}
use Rattle.oc_target.proofs.signatures.missing_keys.Goals as goal

pub loop-k-preserved : goal.loop-k-preserved
loop-k-preserved c =
    let n = c.args.neutral.now in
    let g = c.group.result.now in
    counted_next (λ (g : Group). not (has_name n.symbols g.key)) n.groups c.loop-k.k c.loop-k.count _ c.from-count.result g (not c.is_among.result) c.group.ensures
    (ap not (c.is_among.ensures ∙ c.requires.same c.as_slice.result.now ∙ ap (has_name n.symbols) c.as_slice.ensures)) c.from-count.ensures refl c.loop-k.invariant
