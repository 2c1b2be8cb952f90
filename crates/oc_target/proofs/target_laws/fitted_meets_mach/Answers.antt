use Rattle.oc_target.proofs.MeetsMach as proven
use Rattle.oc_target.proofs.target_laws.fitted_meets_mach.Goals as goal

pub returns : goal.returns
returns c = proven.meets_mach
