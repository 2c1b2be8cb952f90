use Rattle.oc_equations.proofs.LawProofs as proven
use Rattle.oc_equations.proofs.laws.refusal_is_least.Goals as goal

pub returns : goal.returns
returns c = proven.refusal_is_least
