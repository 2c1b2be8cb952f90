-- The table lies in the file, as no section has a fault.
use Rattle.std.proofs.Common.{refl}
use Rattle.oc_coff_judge.proofs.KeptTables.{table_is}
use Rattle.oc_coff_judge.proofs.judging.table_of.Goals as goal

pub returns : goal.returns
returns c =
    table_is c.args.coff.now c.requires.clean c.args.i c.args.h.now c.requires.here c.is_headed.ensures c.args.kind c.requires.carried _ refl c.is_stored.ensures c.relocs_place.ensures c.reloc_count.ensures
