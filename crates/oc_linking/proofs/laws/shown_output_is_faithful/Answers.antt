use Rattle.oc_linking.proofs.Alike as proven
use Rattle.oc_linking.proofs.laws.shown_output_is_faithful.Goals as goal

pub returns : goal.returns
returns c = proven.faithful_shown
