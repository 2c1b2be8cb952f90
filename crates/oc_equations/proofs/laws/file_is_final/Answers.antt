use Rattle.oc_equations.proofs.FiledForms as proven
use Rattle.oc_equations.proofs.laws.file_is_final.Goals as goal

pub returns : goal.returns
returns c = proven.file_is_final
