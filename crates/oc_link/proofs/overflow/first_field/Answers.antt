use Rattle.std.proofs.Common.{◌∙◌, ap, subst, sym}
use Rattle.std.specs.List.{AllByRecursion}
use Rattle.oc_neutral.proofs.Positions.{there_at}
use Rattle.oc_link.specs.Values.{first_of, overflows_at}
use Rattle.oc_link.proofs.FieldLemmas.{IsFound, all_found}
use Rattle.oc_link.proofs.overflow.first_field.Goals as goal

pub loop-field-init : goal.loop-field-init
loop-field-init c =
    let n = c.args.object.now in
    let y = there_at n.sections c.args.section c.requires.there in
    let same = c.into_iter-field-iterator.ensures.into_iter_gives ∙ c.relocs-field-items.ensures in (
      tt,
      tt,
      sym (ap (first_of (overflows_at n c.args.placed.now c.args.section)) same),
      subst (λ xs. AllByRecursion (IsFound n c.args.section) xs) (sym same) (all_found n c.is_object.ensures c.args.section y.0 y.1),
    )
