use Rattle.oc_names.proofs.KeptLooks.{edited_looks}
use Rattle.oc_names.proofs.laws.edited_keeps_looks.Goals as goal

pub returns : goal.returns
returns c = edited_looks
