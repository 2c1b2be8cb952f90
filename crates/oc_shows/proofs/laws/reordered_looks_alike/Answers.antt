use Rattle.oc_shows.proofs.Reordered as proven
use Rattle.oc_shows.proofs.laws.reordered_looks_alike.Goals as goal

pub returns : goal.returns
returns c = proven.reordered_looks_alike
