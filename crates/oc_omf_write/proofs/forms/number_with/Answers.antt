-- The field holds the addend.
use Rattle.std.proofs.Common.{◌≡◌, IsOk, refl, rules, sym, ◌∙◌, ap, subst}
use Rattle.oc_base.specs.declared.format.Word.TheVariants.{W32}
use Rattle.oc_algebra.specs.Fields.{to_field_of}
use Rattle.oc_omf_file.specs.Fixups.{number_or}
use Rattle.oc_omf_write.specs.Written.{shift_by}
use Rattle.oc_omf_write.proofs.forms.number_with.Goals as goal

pub unwrap-requires : goal.unwrap-requires
unwrap-requires c =
    let r = c.args.written in
    let same : c.to_field.result ≡ to_field_of W32 r.form.width (shift_by c.args.row) r.addend = search rules in
    subst (λ x. IsOk x) (sym (same ∙ c.requires.1)) refl

pub returns : goal.returns
returns c =
    let r = c.args.written in
    let same : c.to_field.result ≡ to_field_of W32 r.form.width (shift_by c.args.row) r.addend = search rules in
    ap number_or (sym c.unwrap.ensures ∙ same)
