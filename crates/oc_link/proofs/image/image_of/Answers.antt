use Rattle.std.proofs.Common.{◌∙◌, ap, subst, sym}
use Rattle.oc_linking.specs.declared.terms.Patch.{Patch}
use Rattle.oc_chains.specs.Lists.{list_of}
use Rattle.oc_link.proofs.FieldLemmas.{IsFilling, fill_end, fill_more, fill_start}
use Rattle.oc_link.proofs.image.image_of.Goals as goal

pub loop-field-init : goal.loop-field-init
loop-field-init c =
    let n = c.args.object.now in
    let x = c.args.placed.now in
    let s = c.args.section in
    let left = c.into_iter-field-iterator.ensures.into_iter_gives ∙ c.relocs-field-items.ensures in
    let bytes = c.in_ok-bytes.ensures ∙ c.as_slice.ensures in (
      tt,
      tt,
      subst (λ xs. IsFilling n x s c.in_ok-bytes.bytes xs) (sym left)
          (subst (λ b. IsFilling n x s b (list_of n.relocs s)) (sym bytes) (fill_start n c.is_object.ensures x s c.section.result.now c.section.ensures)),
    )

pub loop-field-preserved : goal.loop-field-preserved
loop-field-preserved c =
    let n = c.args.object.now in
    let x = c.args.placed.now in
    let s = c.args.section in (
      tt,
      tt,
      fill_more n x s c.loop-field.bytes c.in-Some.field c.next.new.self c.patch_of-patch.result.residue c.put.new.bytes
          (subst (λ xs. IsFilling n x s c.loop-field.bytes xs) c.in-Some.ensures.steps c.loop-field.invariant.2)
          (ap (λ (q : Patch). q.residue) c.patch_of-patch.ensures) c.put.ensures,
    )

pub returns : goal.returns
returns c = fill_end c.args.object.now c.args.placed.now c.args.section c.loop-field.bytes c.loop-field.field-iterator c.loop-field.invariant.2 c.in-None.ensures.steps.0
