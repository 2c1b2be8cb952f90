use Rattle.std.proofs.Common.{◌∙◌}
use Rattle.oc_target.proofs.Sorting.{searched}
use Rattle.oc_target.proofs.signatures.is_among.Goals as goal

pub returns : goal.returns
returns c = c.is_ok.ensures.value ∙ searched c.args.names.now c.args.name c.binary_search.result c.requires c.binary_search.ensures.bound c.binary_search.ensures.position
