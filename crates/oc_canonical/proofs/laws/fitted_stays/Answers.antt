use Rattle.oc_canonical.proofs.FittedStays as proven
use Rattle.oc_canonical.proofs.laws.fitted_stays.Goals as goal

pub returns : goal.returns
returns c = proven.fitted_stays
