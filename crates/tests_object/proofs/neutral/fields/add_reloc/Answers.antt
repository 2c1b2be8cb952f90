use Rattle.tests_object.proofs.SmallObjects.{either_calling}
use Rattle.tests_object.proofs.neutral.fields.add_reloc.Goals as goal

pub returns : goal.returns
returns g c =
    either_calling c.args.builder.now c.add_reloc-got.new.self c.args.at c.reloc_of-reloc.result c.requires c.is_draft.ensures c.reloc_of-reloc.ensures
    c.add_reloc-got.result c.add_reloc-got.ensures.added c.add_reloc-got.ensures.same
