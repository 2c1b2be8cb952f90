use Rattle.oc_linking.proofs.LawProofs as proven
use Rattle.oc_linking.proofs.laws.zeros_place_all.Goals as goal

pub returns : goal.returns
returns c = proven.zeros_place_all
