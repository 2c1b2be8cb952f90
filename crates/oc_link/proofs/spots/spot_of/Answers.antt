use Rattle.oc_link.proofs.ValueLemmas.{spot_own}
use Rattle.oc_link.proofs.spots.spot_of.Goals as goal

pub returns : goal.returns
returns c = spot_own c.args.object.now c.is_object.ensures c.args.placed.now c.args.k c.symbol.result.now c.symbol.ensures c.outside-outside.result c.outside-outside.ensures c.spot_by.result c.spot_by.ensures
