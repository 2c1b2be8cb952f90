use Rattle.tests_object.proofs.SmallObjects.{bare_complete}
use Rattle.tests_object.proofs.names.object_of.Goals as goal

pub finish-requires : goal.finish-requires
finish-requires g c = bare_complete _ _ c.in_ok-add_symbols.ensures
