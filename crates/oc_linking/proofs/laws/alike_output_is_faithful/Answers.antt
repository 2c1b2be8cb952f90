use Rattle.oc_linking.proofs.Same as proven
use Rattle.oc_linking.proofs.laws.alike_output_is_faithful.Goals as goal

pub returns : goal.returns
returns c = proven.faithful_same
