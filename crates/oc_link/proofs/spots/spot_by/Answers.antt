use Rattle.std.proofs.Common.{◌∙◌, ap}
use Rattle.std.specs.Option.{option_map}
use Rattle.oc_place.specs.Placings.{as_site}
use Rattle.oc_link.proofs.ValueLemmas.{not_weak, strong_is, weak_is}
use Rattle.oc_link.proofs.spots.spot_by.Goals as goal

pub returns-in-Local : goal.returns-in-Local
returns-in-Local c = λ name gives.
    c.strong_spot.ensures ∙ strong_is c.args.object.now c.args.placed.now name (option_map as_site c.args.given) c.args.binding (ap not_weak c.in-Local.is) gives

pub returns-in-Global : goal.returns-in-Global
returns-in-Global c = λ name gives.
    c.strong_spot-in-Global.ensures ∙ strong_is c.args.object.now c.args.placed.now name (option_map as_site c.args.given) c.args.binding (ap not_weak c.in-Global.is) gives

pub returns-in-Undefined : goal.returns-in-Undefined
returns-in-Undefined c = λ name gives.
    c.strong_spot-in-Undefined.ensures ∙ strong_is c.args.object.now c.args.placed.now name (option_map as_site c.args.given) c.args.binding (ap not_weak c.in-Undefined.is) gives

pub returns-in-Common : goal.returns-in-Common
returns-in-Common c = λ name gives.
    c.strong_spot-in-Common.ensures ∙ strong_is c.args.object.now c.args.placed.now name (option_map as_site c.args.given) c.args.binding (ap not_weak c.in-Common.is) gives

pub returns-in-Weak : goal.returns-in-Weak
returns-in-Weak c = λ name gives. c.weak_spot.ensures ∙ weak_is c.args.object.now c.args.placed.now name (option_map as_site c.args.given) c.args.binding c.in-Weak.fallback c.in-Weak.is gives
