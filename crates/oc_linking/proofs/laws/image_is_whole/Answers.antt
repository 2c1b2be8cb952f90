use Rattle.oc_linking.proofs.LawProofs as proven
use Rattle.oc_linking.proofs.laws.image_is_whole.Goals as goal

pub returns : goal.returns
returns c = proven.image_is_whole
