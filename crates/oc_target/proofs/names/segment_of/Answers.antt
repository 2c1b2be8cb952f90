use Rattle.std.proofs.Common.{◌∙◌, sym}
use Rattle.oc_target.proofs.Commas.{before_comma, no_comma}
use Rattle.oc_target.proofs.names.segment_of.Goals as goal

pub returns-in-Some : goal.returns-in-Some
returns-in-Some c = before_comma c.args.name.now c.in-Some.at (sym c.comma_at.ensures ∙ c.in-Some.is)

pub returns-in-None : goal.returns-in-None
returns-in-None c = no_comma c.args.name.now (sym c.comma_at.ensures ∙ c.in-None.is)
