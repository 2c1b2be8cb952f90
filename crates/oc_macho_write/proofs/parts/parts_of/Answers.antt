-- Those in front, those of sections, and those behind.
use Rattle.std.proofs.Common.{◌≡◌, [], ◌∷◌, ◌++◌, List, rules, ap, ◌∙◌}
use Rattle.oc_macho_write.specs.declared.parts.Part.{Part}
use Rattle.oc_macho_write.specs.declared.parts.Part.TheVariants as part
use Rattle.oc_macho_write.proofs.PartLemmas.{parts_whole}
use Rattle.oc_macho_write.proofs.parts.parts_of.Goals as goal

pub returns : goal.returns
returns c =
    let none : c.new-parts.result.items ≡ [] = search rules in
    parts_whole c.args.neutral.now c.push-5.new.self.items c.add_raws.new.parts.items c.add_relocs.new.parts.items c.push-7.new.self.items
    (c.in_ok-push-5.ensures.items
    ∙ ap (λ (zs : List Part). zs ++ part.DysymtabHead ∷ []) (c.in_ok-push-4.ensures.items
    ∙ ap (λ (zs : List Part). zs ++ part.SymtabHead ∷ []) (c.in_ok-push-3.ensures.items
    ∙ ap (λ (zs : List Part). zs ++ part.SectionHeads ∷ []) (c.in_ok-push-2.ensures.items
    ∙ ap (λ (zs : List Part). zs ++ part.SegmentHead ∷ []) (c.in_ok-push.ensures.items ∙ ap (λ (zs : List Part). zs ++ part.FileHead ∷ []) none)))))
    c.in_ok-add_raws.ensures c.in_ok-add_relocs.ensures
    (c.in_ok-push-7.ensures.items ∙ ap (λ (zs : List Part). zs ++ part.StringTable ∷ []) c.in_ok-push-6.ensures.items)
