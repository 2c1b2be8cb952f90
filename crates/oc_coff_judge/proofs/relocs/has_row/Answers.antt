-- A type has a meaning where it has a row.
use Rattle.std.proofs.Common.{◌≡◌, ◌∙◌, Option, None, Some, refl, ap, is_some}
use Rattle.std.specs.Option.{option_map}
use Rattle.oc_neutral.specs.Rows.{Row}
use Rattle.oc_coff.specs.Meanings.{meant_by}
use Rattle.oc_coff_judge.specs.Relocs.{row_for}
use Rattle.oc_coff_judge.proofs.relocs.has_row.Goals as goal

mapped : (o : Option Row) → is_some (option_map meant_by o) ≡ is_some o
mapped None = refl
mapped (Some row) = refl

pub returns : goal.returns
returns c = c.is_some.ensures ∙ ap is_some c.meaning_of.ensures ∙ mapped (row_for c.args.word c.args.r.now)
