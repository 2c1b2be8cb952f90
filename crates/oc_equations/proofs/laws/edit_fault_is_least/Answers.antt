use Rattle.oc_equations.proofs.LawProofs as proven
use Rattle.oc_equations.proofs.laws.edit_fault_is_least.Goals as goal

pub returns : goal.returns
returns c = proven.edit_fault_is_least
