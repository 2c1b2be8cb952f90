use Rattle.oc_linking.proofs.CheckProofs as proven
use Rattle.oc_linking.proofs.laws.checks_at_borders.Goals as goal

pub returns : goal.returns
returns c = proven.checks_at_borders
