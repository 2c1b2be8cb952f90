use Rattle.oc_equations.proofs.LawProofs as proven
use Rattle.oc_equations.proofs.laws.edited_is_equations.Goals as goal

pub returns : goal.returns
returns c = proven.edited_is_equations
