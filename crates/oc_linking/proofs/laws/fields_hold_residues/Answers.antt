use Rattle.oc_linking.proofs.LawProofs as proven
use Rattle.oc_linking.proofs.laws.fields_hold_residues.Goals as goal

pub returns : goal.returns
returns c = proven.fields_hold_residues
