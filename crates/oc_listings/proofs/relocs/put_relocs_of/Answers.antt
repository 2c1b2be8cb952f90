-- What the relocations of a section name is there.
use Rattle.std.proofs.Common.{◌≡◌, rules, subst}
use Rattle.std.specs.List.{AllByRecursion}
use Rattle.oc_chains.specs.{declared.field.Field.{Field}, Lists.{list_of}}
use Rattle.oc_neutral.specs.{declared.reloc.Reloc.{Reloc}, Invariants.{IsHeld, IsThere}}
use Rattle.oc_neutral.proofs.Positions.{each_weaker, there_at}
use Rattle.oc_listings.proofs.relocs.put_relocs_of.Goals as goal

pub loop-field-init : goal.loop-field-init
loop-field-init c =
    let n = c.args.neutral.now in
    let k = c.args.section in
    let x = there_at n.sections k c.requires in
    let same : list_of n.relocs k ≡ c.into_iter-field-iterator.result = search rules in (
      search rules,
      search rules,
      subst (AllByRecursion (λ (z : Field Reloc). IsThere n z.item.target)) same
          (each_weaker (IsHeld n k x.0.bytes) (λ (z : Field Reloc). IsThere n z.item.target) (λ z held. held.normal.target) (list_of n.relocs k) (c.is_object.ensures.built.fields.each k x.0 x.1)),
      search rules,
    )
