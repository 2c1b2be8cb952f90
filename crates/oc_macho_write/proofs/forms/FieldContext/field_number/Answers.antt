-- The relocation stands, and its field holds the addend.
use Rattle.std.proofs.Common.{◌≡◌, Some, sym, ◌∙◌, ap, subst}
use Rattle.std.specs.Option.{option_map_or}
use Rattle.oc_macho_file.specs.Bodies as bodies
use Rattle.oc_macho_write.specs.Forms.{IsWritten}
use Rattle.oc_macho_write.proofs.FormLemmas.{stands_for}
use Rattle.oc_macho_write.proofs.forms.FieldContext.field_number.Goals as goal

pub spelled_number-requires-clause-there : goal.spelled_number-requires-clause-there
spelled_number-requires-clause-there c =
    let form = c.requires.can.form in
    stands_for c.args.self.now c.spelled_at.result c.args.section c.args.at c.args.reloc c.requires.can (c.spelled_at.ensures form.written form.there)

pub spelled_number-requires-clause-held : goal.spelled_number-requires-clause-held
spelled_number-requires-clause-held c =
    let form = c.requires.can.form in
    record { object = c.requires.object; context = c.requires.context; is = form.written; written = c.spelled_at.ensures form.written form.there; holds = c.requires.holds }

pub returns : goal.returns
returns c = λ w n context.
    let is = c.requires.can.form.written in
    let there : bodies.written_reloc_at w c.args.section c.args.at c.args.reloc ≡ Some is
    = ap (λ v. bodies.written_reloc_at v c.args.section c.args.at c.args.reloc) (sym context.word) ∙ c.requires.can.form.there in
    let written : IsWritten w c.spelled_at.result is = subst (λ v. IsWritten v c.spelled_at.result is) context.word (c.spelled_at.ensures is c.requires.can.form.there) in
    c.spelled_number.ensures w n is context written ∙ ap (λ o. option_map_or (bodies.field_number w n) o 0) (sym there)
