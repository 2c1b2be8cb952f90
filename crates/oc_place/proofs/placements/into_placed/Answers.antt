use Rattle.oc_place.proofs.CheckLemmas.{placing_so}
use Rattle.oc_place.proofs.placements.into_placed.Goals as goal

pub returns-clause-placing : goal.returns-clause-placing
returns-clause-placing c = placing_so c.args.object.now c.args.notebook c.image-image.result c.got-got.result c.in_ok-spots.spots.items c.into_dropped.result.items c.in_ok-given.given.items
    c.requires c.in_ok-spots.ensures c.into_dropped.ensures c.in_ok-given.ensures
