-- Each row has the size of its structure.
use Rattle.std.proofs.Common.{ℕ, map, sym, subst}
use Rattle.oc_shelf.specs.Writing.Parts.{HaveSize}
use Rattle.oc_macho.specs.{Nlist.{nlist_size}, Structures.{nlist_bytes}}
use Rattle.oc_macho_file.proofs.StructureLaws.{length-nlist_bytes}
use Rattle.oc_macho_write.proofs.TableRows.{rows_sized}
use Rattle.oc_macho_write.proofs.tables.NlistRowsWritesRows.size.Goals as goal

pub returns-clause-same : goal.returns-clause-same
returns-clause-same c =
    let t = c.args.self.now in
    subst (λ (m : ℕ). HaveSize m (map (nlist_bytes t.word) t.nlists.now)) (sym c.nlist_size.ensures) (rows_sized (nlist_bytes t.word) (nlist_size t.word) (length-nlist_bytes t.word) t.nlists.now)
