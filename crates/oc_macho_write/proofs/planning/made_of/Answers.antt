-- What is made is that of the object.
use Rattle.std.proofs.Common.{◌≡◌, refl, length, sym, ◌∙◌, ap, subst}
use Rattle.std.proofs.lemmas.List.{length-map}
use Rattle.oc_neutral.specs.Objects.{Object}
use Rattle.oc_target.specs.Fitted.{IsFitted}
use Rattle.oc_macho.specs.MachHeader.{mach_format}
use Rattle.oc_shelf.specs.Writing.Parts.{Laid}
use Rattle.oc_macho_file.specs.Layout as layout
use Rattle.oc_macho_file.specs.Layout.{laid_parts, parts_of}
use Rattle.oc_macho_write.specs.{LaidParts.{AreLaid}, Relocations.{all_raws}}
use Rattle.oc_macho_write.proofs.{PartLemmas.{as_many_parts}, PlaceLemmas.{as_many_laid}}
use Rattle.oc_macho_write.proofs.planning.made_of.Goals as goal

pub of-requires-2-clause-counted : goal.of-requires-2-clause-counted
of-requires-2-clause-counted c =
    let w = c.args.word in
    let m : Object = c.neutral-neutral.result.now in
    let parts = as_many_parts m c.in_ok-parts.parts.items c.in_ok-parts.ensures in
    ap length (c.deref-4.ensures.value ∙ c.in_ok-layout.ensures.begins) ∙ length-map (laid_parts w m) (λ (l : Laid layout.Part). l.at) ∙ as_many_laid w m ∙ sym parts ∙ sym (ap length c.deref-3.ensures.value)

pub heads_of-requires-clause-made : goal.heads_of-requires-clause-made
heads_of-requires-clause-made c = record {
  fitted = subst (λ (m : Object). IsFitted (mach_format c.args.word) m) (sym c.neutral-neutral.ensures) (subst (λ f. IsFitted f c.args.fitted) c.requires c.is_fitted.ensures);
  addresses = c.in_ok-addresses.ensures;
  bodies = c.in_ok-bodies.ensures;
  places = c.in_ok-places.ensures c.args.word (c.deref-4.ensures.value ∙ c.in_ok-layout.ensures.begins);
}

pub sections_of-sections-requires-clause-fitted : goal.sections_of-sections-requires-clause-fitted
sections_of-sections-requires-clause-fitted c =
    subst (λ (m : Object). IsFitted (mach_format c.args.word) m) (sym c.into_neutral.ensures) (subst (λ f. IsFitted f c.args.fitted) c.requires c.is_fitted.ensures)

pub returns-clause-made : goal.returns-clause-made
returns-clause-made c =
    let w = c.args.word in
    let same : c.neutral-neutral.result.now ≡ c.args.fitted = c.neutral-neutral.ensures in
    rw (← same) (record {
      word = refl;
      heads = c.in_ok-heads.ensures;
      parts = c.in_ok-parts.ensures;
      raws = c.sections_of-sections.ensures ∙ ap (all_raws w) (c.into_neutral.ensures ∙ sym same);
      bodies = c.in_ok-bodies.ensures;
    })

pub returns-clause-laid : goal.returns-clause-laid
returns-clause-laid c =
    let same : c.neutral-neutral.result.now ≡ c.args.fitted = c.neutral-neutral.ensures in
    subst (λ (x : Object). AreLaid c.args.word x c.in_ok-layout.layout (parts_of x)) same c.in_ok-layout.ensures
