use Rattle.oc_shows.proofs.BuiltLaws as proven
use Rattle.oc_shows.proofs.laws.built_shows.Goals as goal

pub returns : goal.returns
returns c = proven.built_shows
