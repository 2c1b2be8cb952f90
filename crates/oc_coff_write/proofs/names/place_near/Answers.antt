-- A name that is given has an offset.
use Rattle.oc_coff_write.proofs.NameLemmas.{given_there}
use Rattle.oc_coff_write.proofs.names.place_near.Goals as goal

pub unwrap-requires : goal.unwrap-requires
unwrap-requires c = c.offset_near.ensures.given.1 (given_there c.args.names.now.names c.args.name.now c.requires)
