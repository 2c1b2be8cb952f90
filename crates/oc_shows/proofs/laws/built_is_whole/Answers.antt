use Rattle.oc_shows.proofs.BuiltWhole as proven
use Rattle.oc_shows.proofs.laws.built_is_whole.Goals as goal

pub returns-clause-complete : goal.returns-clause-complete
returns-clause-complete c = proven.built_is_complete

pub returns-clause-readable : goal.returns-clause-readable
returns-clause-readable c = proven.built_is_readable
