-- Each word has its own.
use Rattle.std.proofs.Common.{to_z, of_z, w64, ◌≡◌, rules, sym, ◌∙◌, ap, subst}
use Rattle.oc_base.specs.declared.format.Word.TheVariants.{W64}
use Rattle.oc_macho_file.specs.Bodies.{field_shift}
use Rattle.oc_macho_write.specs.Forms.{IsWritten}
use Rattle.oc_macho_write.proofs.forms.FieldContext.field_shift.Goals as goal

pub returns-in-W64 : goal.returns-in-W64
returns-in-W64 c = λ w n is context written.
    let same : to_z w64 (of_z w64 c.shift64.result) ≡ c.shift64.result = search rules in
    let own : w ≡ W64 = sym context.word ∙ c.in-W64.is in
    same ∙ c.shift64.ensures n is (subst (λ v. IsWritten v c.args.standing.now is) own written) ∙ ap (λ v. field_shift v n is) (sym own)
