-- By the row, whose number tells the shift.
use Rattle.std.proofs.Common.{sym, ◌∙◌, ap, subst}
use Rattle.std.specs.Prelude.{ℤ}
use Rattle.oc_base.specs.declared.format.Format.TheVariants.{Omf}
use Rattle.oc_neutral.specs.declared.reloc.Reloc.{Reloc}
use Rattle.oc_target.specs.Meets.{HoldsAddend}
use Rattle.oc_omf_file.specs.Fixups.{written_reloc}
use Rattle.oc_omf_write.specs.Written.{number_with, shift_by}
use Rattle.oc_omf_write.proofs.FormLemmas.{shift_is, number_is}
use Rattle.oc_omf_write.proofs.forms.field_number.Goals as goal

pub row_number-row-requires : goal.row_number-row-requires
row_number-row-requires c = c.requires.has

pub number_with-requires : goal.number_with-requires
number_with-requires c =
    let r = c.args.reloc in
    let can = c.requires in
    subst (λ (w : Reloc). HoldsAddend Omf w (shift_by c.row_number-row.result)) (sym (c.written_reloc.ensures can.object can.symbols_of))
    (subst (λ (z : ℤ). HoldsAddend Omf (written_reloc can.object r) z) (shift_is r can.has ∙ ap shift_by (sym c.row_number-row.ensures)) can.holds)

pub returns : goal.returns
returns c = λ n of.
    let r = c.args.reloc in
    c.number_with.ensures
    ∙ ap (λ (w : Reloc). number_with w c.row_number-row.result) (c.written_reloc.ensures n of)
    ∙ ap (number_with (written_reloc n r)) c.row_number-row.ensures
    ∙ sym (number_is r c.requires.has n)
