-- Each entry has ten bytes.
use Rattle.oc_coff_write.proofs.PlanLemmas.{relocations_sized}
use Rattle.oc_coff_write.proofs.tables.RelocationRowsWritesRows.size.Goals as goal

pub returns-clause-same : goal.returns-clause-same
returns-clause-same c = relocations_sized c.args.self.now
