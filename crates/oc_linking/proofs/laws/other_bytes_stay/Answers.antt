use Rattle.oc_linking.proofs.LawProofs as proven
use Rattle.oc_linking.proofs.laws.other_bytes_stay.Goals as goal

pub returns : goal.returns
returns c = proven.other_bytes_stay
