use Rattle.oc_shows.proofs.StartedLaws as proven
use Rattle.oc_shows.proofs.laws.start_is_started.Goals as goal

pub returns : goal.returns
returns c = proven.start_is_started
