use Rattle.oc_drop.proofs.DroppedShows.{dropped_shows_law}
use Rattle.oc_drop.proofs.laws.dropped_shows_kept.Goals as goal

pub returns : goal.returns
returns c = dropped_shows_law
