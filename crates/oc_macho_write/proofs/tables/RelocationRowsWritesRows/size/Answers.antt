-- Each row has the size of its structure.
use Rattle.oc_macho.specs.Structures.{relocation_bytes}
use Rattle.oc_macho_file.proofs.StructureLaws.{length-relocation_bytes}
use Rattle.oc_macho_write.proofs.TableRows.{rows_sized}
use Rattle.oc_macho_write.proofs.tables.RelocationRowsWritesRows.size.Goals as goal

pub returns-clause-same : goal.returns-clause-same
returns-clause-same c = rows_sized relocation_bytes 8 length-relocation_bytes c.args.self.now.entries.now
