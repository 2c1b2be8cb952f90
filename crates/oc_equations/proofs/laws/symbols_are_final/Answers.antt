use Rattle.oc_equations.proofs.LawProofs as proven
use Rattle.oc_equations.proofs.laws.symbols_are_final.Goals as goal

pub returns : goal.returns
returns c = proven.symbols_are_final
