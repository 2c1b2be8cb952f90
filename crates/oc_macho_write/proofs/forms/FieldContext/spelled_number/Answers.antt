-- The number holds the addend, less the shift.
use Rattle.std.proofs.Common.{to_z, of_z, w64, ◌≡◌, IsOk, rules, sym, ◌∙◌, ap, subst}
use Rattle.oc_macho_file.specs.Bodies.{field_number, number_or}
use Rattle.oc_macho_write.proofs.FormLemmas.{field_held, field_same}
use Rattle.oc_macho_write.proofs.forms.FieldContext.spelled_number.Goals as goal

pub unwrap-requires : goal.unwrap-requires
unwrap-requires c =
    let w = c.args.self.now.word in
    let y = c.args.standing.now in
    let held = c.requires.held in
    let one : to_z w64 (of_z w64 c.field_shift-shift.result) ≡ c.field_shift-shift.result = search rules in
    let two : to_z w64 (of_z w64 y.reloc.addend) ≡ y.reloc.addend = search rules in
    subst (λ z. IsOk z) (sym c.to_field.ensures)
    (field_held w held.object y held.is _ _ held.written (one ∙ c.field_shift-shift.ensures w held.object held.is held.context held.written) two held.holds)

pub returns : goal.returns
unfolding field_number
returns c = λ w n is context written.
    let y = c.args.standing.now in
    let one : to_z w64 (of_z w64 c.field_shift-shift.result) ≡ c.field_shift-shift.result = search rules in
    let two : to_z w64 (of_z w64 y.reloc.addend) ≡ y.reloc.addend = search rules in
    ap number_or (sym c.unwrap.ensures ∙ c.to_field.ensures ∙ field_same w c.args.self.now.word n y is _ _ context.word written (one ∙ c.field_shift-shift.ensures w n is context written) two)
