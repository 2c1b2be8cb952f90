use Rattle.oc_canonical.proofs.Stable as proven
use Rattle.oc_canonical.proofs.laws.canonical_is_stable.Goals as goal

pub returns : goal.returns
returns c = proven.canonical_is_stable
