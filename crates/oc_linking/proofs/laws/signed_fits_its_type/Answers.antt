use Rattle.oc_linking.proofs.CheckProofs as proven
use Rattle.oc_linking.proofs.laws.signed_fits_its_type.Goals as goal

pub returns : goal.returns
returns c = proven.signed_fits_its_type
