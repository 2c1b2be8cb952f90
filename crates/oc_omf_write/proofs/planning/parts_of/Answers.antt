-- The fields lie in the bytes of their sections, and their numbers can be written.
use Rattle.std.proofs.Common.{refl, sym, ◌∙◌, subst}
use Rattle.oc_chains.specs.Lists.{Lists, list_of}
use Rattle.oc_neutral.specs.{declared.reloc.Reloc.{Reloc}, Objects.{Object}}
use Rattle.oc_plans.specs.Numbered.{AreAll}
use Rattle.oc_plans.proofs.FieldBytes.{parts_numbered, parts_within}
use Rattle.oc_omf_file.proofs.CodedLaws.{for_omf}
use Rattle.oc_omf_write.specs.Raws.{CanWrite, addend_in}
use Rattle.oc_omf_write.proofs.FixupLemmas.{all_can}
use Rattle.oc_omf_write.proofs.planning.parts_of.Goals as goal

pub with_numbers-sections-requires-clause-there : goal.with_numbers-sections-requires-clause-there
with_numbers-sections-requires-clause-there c = λ k low.
    let n : Object = c.args.neutral in
    let parts = c.into_parts-groups in
    let symbols = c.deref.result.now in
    subst (λ (ls : Lists Reloc). AreAll (λ at r. CanWrite symbols r) (list_of ls k)) (sym parts.ensures.relocs)
    (all_can n (for_omf n c.requires) symbols (sym (c.deref.ensures.value ∙ parts.ensures.symbols)) k)

pub with_numbers-sections-requires-clause-within : goal.with_numbers-sections-requires-clause-within
with_numbers-sections-requires-clause-within c =
    let parts = c.into_parts-groups in
    parts_within c.args.neutral c.is_object.ensures parts.result.1.items parts.result.3.lists parts.ensures.sections parts.ensures.relocs

pub returns-clause-sections : goal.returns-clause-sections
returns-clause-sections c =
    let n : Object = c.args.neutral in
    let parts = c.into_parts-groups in
    c.with_numbers-sections.ensures (addend_in n) (record { object = n; symbols_of = sym (c.deref.ensures.value ∙ parts.ensures.symbols); same = refl })
    ∙ parts_numbered n (addend_in n) parts.result.1.items parts.result.3.lists parts.ensures.sections parts.ensures.relocs
