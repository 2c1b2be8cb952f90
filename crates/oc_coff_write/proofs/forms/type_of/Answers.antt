-- The format has a row for the relocation, so looking it up does not fail.
use Rattle.std.proofs.Common.{Option, sym, ◌∙◌, ap}
use Rattle.std.specs.{Prelude.{is_err}, Option.{option_map}}
use Rattle.std.proofs.lemmas.Bool.{true≢false}
use Rattle.oc_neutral.specs.{Rows.{Row}, Spelling.{numbers_in, spelling_of}}
use Rattle.oc_target.specs.Lookup.{answer_of}
use Rattle.oc_coff_write.proofs.forms.type_of.Goals as goal

pub unreachable-requires : goal.unreachable-requires
unreachable-requires c =
    let r = c.args.reloc in
    true≢false (
    ap is_err (sym c.in-Err.is ∙ c.lookup.ensures)
    ∙ ap (λ f. is_err (answer_of (spelling_of f r.form r.hint))) c.format_of.ensures
    ∙ ap (λ (o : Option Row). is_err (answer_of (option_map (λ (row : Row). numbers_in row.number row.second) o))) c.requires.written)
