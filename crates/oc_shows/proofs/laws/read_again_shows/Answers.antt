use Rattle.oc_shows.proofs.AgainLaws as proven
use Rattle.oc_shows.proofs.laws.read_again_shows.Goals as goal

pub returns : goal.returns
returns c = proven.read_again_shows
