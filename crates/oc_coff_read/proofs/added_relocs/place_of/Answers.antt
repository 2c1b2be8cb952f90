-- The bytes of a section lie in the file.
use Rattle.oc_coff.specs.Files.{tables_in}
use Rattle.oc_coff_read.proofs.{AddedTables.{place_is, stored_is}, BuildLemmas.{header_lies}}
use Rattle.oc_coff_read.proofs.added_relocs.place_of.Goals as goal

pub contents_of-requires : goal.contents_of-requires
contents_of-requires c = λ stored.
    header_lies c.args.coff.now c.args.h.now (tables_in c.args.coff.now) c.requires.clean c.args.i c.requires.here c.args.kind c.requires.carried
    (stored_is c.args.coff.now c.args.i c.args.h.now c.requires.here c.args.kind c.requires.carried c.table_of-table.result c.table_of-table.ensures stored)

pub returns-clause-place : goal.returns-clause-place
returns-clause-place c =
    place_is c.args.coff.now c.args.i c.args.h.now c.requires.here c.args.kind c.requires.carried c.table_of-table.result c.table_of-table.ensures c.requires.clean c.args.position c.contents_of.result.now c.requires.position c.contents_of.ensures
