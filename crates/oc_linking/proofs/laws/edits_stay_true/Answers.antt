use Rattle.oc_linking.proofs.Truth as proven
use Rattle.oc_linking.proofs.laws.edits_stay_true.Goals as goal

pub returns : goal.returns
returns c = proven.values_true
