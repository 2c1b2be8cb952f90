-- The form that the format has is looked up.
use Rattle.std.proofs.Common.{IsOk, sym, ◌∙◌, ap, subst}
use Rattle.oc_neutral.specs.Spelling.{spelling_of}
use Rattle.oc_target.specs.Lookup.{answer_of}
use Rattle.oc_macho_write.proofs.FormLemmas.{told, has_answer}
use Rattle.oc_macho_write.proofs.forms.spelled_at.Goals as goal

pub unwrap-spelling-requires : goal.unwrap-spelling-requires
unwrap-spelling-requires c =
    let r = c.args.reloc in
    subst (λ x. IsOk x) (sym (c.lookup.ensures ∙ ap (λ f. answer_of (spelling_of f r.form r.hint)) c.format_of.ensures)) (has_answer c.args.word c.args.section c.args.at r c.requires)

pub returns : goal.returns
returns c =
    let r = c.args.reloc in
    told c.args.word c.args.section c.args.at r c.unwrap-spelling.result
    (ap (λ f. answer_of (spelling_of f r.form r.hint)) (sym c.format_of.ensures) ∙ sym c.lookup.ensures ∙ c.unwrap-spelling.ensures)
