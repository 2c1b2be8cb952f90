use Rattle.oc_names.proofs.Unedited.{nothing_edited}
use Rattle.oc_names.proofs.laws.nothing_is_edited.Goals as goal

pub returns : goal.returns
returns c = nothing_edited
