-- The relocations are as few as their entries.
use Rattle.oc_coff_write.proofs.TableRows.{few_relocations}
use Rattle.oc_coff_write.proofs.tables.relocations_window.Goals as goal

pub invariant_of-rows_window : goal.invariant_of-rows_window
invariant_of-rows_window c = few_relocations c.args.relocs.now c.requires
