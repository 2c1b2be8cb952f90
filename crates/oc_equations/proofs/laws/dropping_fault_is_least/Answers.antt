use Rattle.oc_equations.proofs.LawProofs as proven
use Rattle.oc_equations.proofs.laws.dropping_fault_is_least.Goals as goal

pub returns : goal.returns
returns c = proven.dropping_fault_is_least
