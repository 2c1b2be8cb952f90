use Rattle.oc_linking.proofs.LawProofs as proven
use Rattle.oc_linking.proofs.laws.overflow_is_least.Goals as goal

pub returns : goal.returns
returns c = proven.overflow_is_least
