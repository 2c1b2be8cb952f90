use Rattle.oc_target.proofs.MeetsCoff as proven
use Rattle.oc_target.proofs.target_laws.fitted_meets_coff.Goals as goal

pub returns : goal.returns
returns c = proven.meets_coff
