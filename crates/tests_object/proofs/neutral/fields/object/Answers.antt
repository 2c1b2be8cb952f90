use Rattle.tests_object.proofs.SmallObjects.{bare_calling, calling_complete}
use Rattle.tests_object.proofs.neutral.fields.object.Goals as goal

pub add_relocs-requires : goal.add_relocs-requires
add_relocs-requires g c = bare_calling _ _ c.in_ok-add_first.ensures.bare c.in_ok-add_first.ensures.one

pub finish-requires : goal.finish-requires
finish-requires g c = calling_complete _ c.add_relocs.ensures c.is_draft.ensures.built
