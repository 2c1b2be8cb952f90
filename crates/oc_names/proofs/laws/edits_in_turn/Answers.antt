use Rattle.oc_names.proofs.Turns.{edits_in_turn_law}
use Rattle.oc_names.proofs.laws.edits_in_turn.Goals as goal

pub returns : goal.returns
returns c = edits_in_turn_law
