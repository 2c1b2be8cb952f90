use Rattle.oc_target.proofs.FitComputed as proven
use Rattle.oc_target.proofs.target_laws.fit_is_computed.Goals as goal

pub returns : goal.returns
returns c = proven.fit_is_computed
