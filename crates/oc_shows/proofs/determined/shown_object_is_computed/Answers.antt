use Rattle.oc_shows.proofs.ShownComputed as proven
use Rattle.oc_shows.proofs.determined.shown_object_is_computed.Goals as goal

pub returns : goal.returns
returns c = proven.shown_is_computed
