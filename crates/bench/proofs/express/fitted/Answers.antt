use Rattle.std.proofs.Common.{rules}
use Rattle.bench.proofs.Shaped.{can_fit}
use Rattle.bench.proofs.express.fitted.Goals as goal

pub fit-fitted-requires : goal.fit-fitted-requires
fit-fitted-requires g c = can_fit _ c.requires c.is_object.ensures.built _ (search rules) (search rules)
