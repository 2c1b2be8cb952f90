-- A section is carried where it has a kind.
use Rattle.std.proofs.Common.{◌∙◌, ap}
use Rattle.std.specs.Prelude.{is_some}
use Rattle.oc_coff_judge.proofs.CarriedLemmas.{carried_by}
use Rattle.oc_coff_judge.proofs.sections.is_carried.Goals as goal

pub returns : goal.returns
returns c = c.is_some.ensures ∙ ap is_some c.kind_in.ensures ∙ carried_by c.args.coff.now c.args.i c.section.result c.section.ensures
