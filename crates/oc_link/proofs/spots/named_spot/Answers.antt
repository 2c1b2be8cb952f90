use Rattle.oc_link.proofs.ValueLemmas.{named_is}
use Rattle.oc_link.proofs.spots.named_spot.Goals as goal

pub returns : goal.returns
returns c =
    named_is c.args.object.now c.is_object.ensures c.args.placed.now c.args.k c.symbol.result.now c.symbol.ensures c.requires.named c.outside-outside.result c.outside-outside.ensures c.strong_spot.result c.strong_spot.ensures
