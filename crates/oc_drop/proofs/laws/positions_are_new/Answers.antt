use Rattle.oc_neutral.proofs.PositionLaws.{positions_new}
use Rattle.oc_drop.proofs.laws.positions_are_new.Goals as goal

pub returns : goal.returns
returns c = positions_new
