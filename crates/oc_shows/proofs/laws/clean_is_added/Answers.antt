use Rattle.oc_shows.proofs.CleanLaws as proven
use Rattle.oc_shows.proofs.laws.clean_is_added.Goals as goal

pub returns : goal.returns
returns c = proven.clean_is_added
