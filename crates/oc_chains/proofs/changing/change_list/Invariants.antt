use Rattle.oc_chains.specs.Links.{nodes}
use Rattle.oc_chains.proofs.Renewing.{IsRenewing}
use Rattle.oc_chains.proofs.changing.change_list.Given as goal

abbrev pub invariant-entries : goal.invariant-entries
invariant-entries g l = IsRenewing (goal.F-post g l.fn.change) l.fn.entries l.entries (nodes l.fn.entries l.fn.ends) l.next l.counter
