use Rattle.oc_target.proofs.MeetsOmf as proven
use Rattle.oc_target.proofs.target_laws.fitted_meets_omf.Goals as goal

pub returns : goal.returns
returns c = proven.meets_omf
