-- What stands before the first NUL.
use Rattle.std.proofs.Common.{◌∙◌, sym}
use Rattle.oc_coff.proofs.NameLemmas.{before_nul, no_nul}
use Rattle.oc_coff.proofs.names.until_nul.Goals as goal

pub returns-in-Some : goal.returns-in-Some
returns-in-Some c = before_nul c.args.bytes.now c.in-Some.end (sym c.nul_place.ensures ∙ c.in-Some.is)

pub returns-in-None : goal.returns-in-None
returns-in-None c = no_nul c.args.bytes.now (sym c.nul_place.ensures ∙ c.in-None.is)
