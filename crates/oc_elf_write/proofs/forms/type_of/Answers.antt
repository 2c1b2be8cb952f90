-- The format has the form, so looking it up does not fail.
use Rattle.std.proofs.Common.{◌≡◌, IsOk, is_ok, rules, sym, ◌∙◌, ap, subst}
use Rattle.std.proofs.lemmas.Bool.{true≢false}
use Rattle.oc_neutral.specs.Spelling.{spelling_of, written_row}
use Rattle.oc_target.specs.Lookup.{answer_of}
use Rattle.oc_elf.specs.Classes.{format_of}
use Rattle.oc_elf_write.proofs.FormLemmas.{looked_up}
use Rattle.oc_elf_write.proofs.forms.type_of.Goals as goal

pub unreachable-requires : goal.unreachable-requires
unreachable-requires c =
    let r = c.args.reloc in
    let same : c.lookup.result ≡ answer_of (spelling_of (format_of c.args.class) r.form r.hint) = search rules in
    let found = looked_up (written_row (format_of c.args.class) r.form r.hint) c.requires in
    true≢false (sym (subst (λ x. IsOk x) (sym same) found) ∙ ap is_ok c.in-Err.is)
