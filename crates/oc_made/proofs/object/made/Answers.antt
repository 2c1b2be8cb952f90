-- The parts are those of an object.
use Rattle.std.proofs.Common.{◌≡◌, sym, subst, rules}
use Rattle.oc_neutral.specs.Invariants.{IsObject}
use Rattle.oc_made.specs.Functions.{made_object}
use Rattle.oc_made.proofs.WholeObject.{made_is_object}
use Rattle.oc_made.proofs.object.made.Goals as goal

pub new-requires-2 : goal.new-requires-2
unfolding made_object
new-requires-2 c =
    let same : _ ≡ made_object c.args.count c.args.word = search rules in
    subst IsObject (sym same) (made_is_object c.args.count c.args.word c.requires)
