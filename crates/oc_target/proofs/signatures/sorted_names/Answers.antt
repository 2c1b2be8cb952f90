use Rattle.oc_target.proofs.Sorting.{named_sorted}
use Rattle.oc_target.proofs.signatures.sorted_names.Goals as goal

pub returns-clause-same : goal.returns-clause-same
returns-clause-same c = named_sorted c.args.neutral.now.symbols c.in_ok-names.names.items c.sort_unstable.new.self.items c.in_ok-names.ensures c.sort_unstable.ensures.permutation
