use Rattle.oc_drop.proofs.NothingDropped.{nothing_dropped}
use Rattle.oc_drop.proofs.laws.nothing_is_dropped.Goals as goal

pub returns : goal.returns
returns c = nothing_dropped
