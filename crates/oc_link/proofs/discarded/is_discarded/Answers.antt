use Rattle.std.proofs.Common.{◌<◌, length, subst}
use Rattle.std.specs.Prelude.{IfSome}
use Rattle.oc_place.proofs.CheckLemmas.{group_there}
use Rattle.oc_link.proofs.ValueLemmas.{discarded_none, discarded_some}
use Rattle.oc_link.proofs.discarded.is_discarded.Goals as goal

pub discarded-requires : goal.discarded-requires
discarded-requires c =
    subst (λ o. IfSome o (λ g. g < length c.args.placed.now.dropped)) c.in-Some.is
    (group_there c.args.object.now c.is_object.ensures c.args.section c.section.result.now c.section.ensures (length c.args.placed.now.dropped) c.requires.placing.dropped)

pub returns-in-Some : goal.returns-in-Some
returns-in-Some c =
    discarded_some c.args.object.now c.is_object.ensures c.args.placed.now c.args.section c.section.result.now c.section.ensures c.in-Some.group c.in-Some.is c.discarded.result c.discarded.ensures

pub returns-in-None : goal.returns-in-None
returns-in-None c = discarded_none c.args.object.now c.is_object.ensures c.args.placed.now c.args.section c.section.result.now c.section.ensures c.in-None.is
