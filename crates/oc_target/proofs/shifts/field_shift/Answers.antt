use Rattle.std.proofs.Common.{rules, ◌≡◌, false, Some, ◌∙◌, ap, sym, w64, to_z, of_z}
use Rattle.oc_neutral.specs.{Families.{family_of}, Spelling.{written_row}}
use Rattle.oc_target.specs.Tables.{meant}
use Rattle.oc_target.proofs.Shifting.{shift_written}
use Rattle.oc_target.proofs.shifts.field_shift.Goals as goal

pub returns : goal.returns
returns c =
    let fits : to_z w64 (of_z w64 c.written_shift.result) ≡ c.written_shift.result = search rules in
    let here : written_row c.args.target c.args.reloc.form c.args.reloc.hint ≡ Some (meant c.in_ok-row.row) = search rules in
    let some : (family_of c.args.target).holds_all_addends ≡ false = sym c.holds_all_addends.ensures ∙ c.if-holds_all_addends.false in
    ap Some (fits ∙ c.written_shift.ensures) ∙ sym (shift_written c.args.target c.args.at c.args.reloc (meant c.in_ok-row.row) some here)
