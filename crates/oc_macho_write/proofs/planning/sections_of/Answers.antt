-- The fields lie in the bytes of their sections.
use Rattle.std.proofs.Common.{map, refl, sym, ◌∙◌, ap, subst}
use Rattle.std.specs.List.{enumerate_from}
use Rattle.oc_chains.specs.Lists.{Lists, list_of}
use Rattle.oc_neutral.specs.{declared.reloc.Reloc.{Reloc}, declared.section.Section.{Section}, Objects.{Object}}
use Rattle.oc_plans.specs.Numbered.{AreAll}
use Rattle.oc_plans.proofs.FieldBytes.{parts_numbered, parts_within}
use Rattle.oc_macho_file.proofs.CodedLaws.{for_mach}
use Rattle.oc_macho_write.specs.{declared.forms.FieldContext.{FieldContext}, Relocations.{CanTell, number_at}}
use Rattle.oc_macho_write.proofs.{PlannedLemmas.{raws_are}, SceneLemmas.{all_told}}
use Rattle.oc_macho_write.proofs.planning.sections_of.Goals as goal

pub with_numbers-requires-clause-there : goal.with_numbers-requires-clause-there
with_numbers-requires-clause-there c = λ k low.
    let n : Object = c.args.neutral in
    let x : FieldContext = record { word = c.args.word; addresses = c.args.addresses; symbols = c.deref.result } in
    subst (λ (ls : Lists Reloc). AreAll (CanTell x k) (list_of ls k)) (sym c.into_parts-groups.ensures.relocs)
    (all_told n x (for_mach c.args.word n c.requires.fitted) (record { word = refl; addresses = c.requires.addresses; symbols = c.deref.ensures.value ∙ c.into_parts-groups.ensures.symbols }) k)

pub with_numbers-requires-clause-within : goal.with_numbers-requires-clause-within
with_numbers-requires-clause-within c =
    let parts = c.into_parts-groups in
    parts_within c.args.neutral c.requires.fitted.object parts.result.1.items parts.result.3.lists parts.ensures.sections parts.ensures.relocs

pub returns : goal.returns
returns c =
    let n : Object = c.args.neutral in
    let w = c.args.word in
    let parts = c.into_parts-groups in
    ap (map (λ (s : Section). s.bytes)) (
    c.with_numbers.ensures (number_at w n) (record { object = n; context = record { word = refl; addresses = c.requires.addresses; symbols = c.deref.ensures.value ∙ parts.ensures.symbols }; same = refl })
    ∙ parts_numbered n (number_at w n) parts.result.1.items parts.result.3.lists parts.ensures.sections parts.ensures.relocs)
    ∙ raws_are w n (enumerate_from 0 n.sections)
