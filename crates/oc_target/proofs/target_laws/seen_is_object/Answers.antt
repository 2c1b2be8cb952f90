use Rattle.oc_target.proofs.SeenLaws as proven
use Rattle.oc_target.proofs.target_laws.seen_is_object.Goals as goal

pub returns : goal.returns
returns c = proven.seen_is_object_law
