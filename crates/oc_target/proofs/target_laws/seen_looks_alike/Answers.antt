use Rattle.oc_target.proofs.SeenLaws as proven
use Rattle.oc_target.proofs.target_laws.seen_looks_alike.Goals as goal

pub returns : goal.returns
returns c = proven.seen_looks_alike_law
