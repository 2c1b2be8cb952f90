-- What is built can be finished, and what is read shows the file.
use Rattle.std.proofs.Common.{sym, subst}
use Rattle.oc_neutral.specs.Invariants.{AreBytes, IsDraft}
use Rattle.oc_shows.specs.{Readable.{IsReadable}, Shows.{Shows}}
use Rattle.oc_elf.specs.Elf.{elf_dialect}
use Rattle.oc_elf_judge.specs.Known.{IsSymtab}
use Rattle.oc_elf_read.proofs.{FoundFields.{stages_clean}, ReaderLemmas.{read_complete, read_readable, read_shows, symtab_found}, ShowableLemmas.{is_started}}
use Rattle.oc_elf_judge.proofs.{PositionLemmas.{few_symbols}, SymbolLemmas.{locals_first}, TableLemmas.{are_signed}}
use Rattle.oc_elf_read.proofs.reader.object_of.Goals as goal

pub start-requires-clause-table : goal.start-requires-clause-table
start-requires-clause-table c =
    subst (IsSymtab c.args.frame.now) (sym c.table_header-table.ensures)
    (symtab_found c.args.frame.now c.args.keep.now c.is_frame.ensures c.requires.clean c.args.found.now.tables.symtab c.requires.found.symtab_is)

pub start-requires-clause-signed : goal.start-requires-clause-signed
start-requires-clause-signed c = are_signed c.args.frame.now c.is_frame.ensures (stages_clean c.args.frame.now c.args.keep.now c.requires.clean).sections

pub add_relocations-requires-clause-aims : goal.add_relocations-requires-clause-aims
add_relocations-requires-clause-aims c = record {
  table_is = subst (IsSymtab c.args.frame.now) (sym c.table_header-table.ensures)
      (symtab_found c.args.frame.now c.args.keep.now c.is_frame.ensures c.requires.clean c.args.found.now.tables.symtab c.requires.found.symtab_is);
  sections_are = c.requires.found.sections_are;
  symbols_are = c.requires.found.symbols_are;
  locals_are = locals_first c.args.frame.now (stages_clean c.args.frame.now c.args.keep.now c.requires.clean).symbols;
}

pub add_relocations-requires-clause-started : goal.add_relocations-requires-clause-started
add_relocations-requires-clause-started c = is_started c.args.frame.now c.is_frame.ensures c.args.keep.now (subst IsDraft c.in_ok-builder.ensures c.is_draft.ensures)

pub finish-requires : goal.finish-requires
finish-requires c =
    read_complete c.args.frame.now c.args.keep.now c.is_frame.ensures c.requires.clean (subst IsDraft c.in_ok-builder.ensures c.is_draft.ensures) c.add_relocations.new.builder c.in_ok-add_relocations.ensures
    (subst AreBytes c.file.ensures c.are_bytes.ensures)
    (few_symbols c.args.frame.now c.table_header-table.result
    (subst (IsSymtab c.args.frame.now) (sym c.table_header-table.ensures)
    (symtab_found c.args.frame.now c.args.keep.now c.is_frame.ensures c.requires.clean c.args.found.now.tables.symtab c.requires.found.symtab_is)))

pub returns-clause-shows : goal.returns-clause-shows
returns-clause-shows c =
    subst (Shows (elf_dialect c.args.frame.now.class) c.args.frame.now.file c.args.keep.now) (sym c.finish.ensures)
    (read_shows c.args.frame.now c.args.keep.now c.is_frame.ensures c.requires.clean (subst IsDraft c.in_ok-builder.ensures c.is_draft.ensures) c.add_relocations.new.builder c.in_ok-add_relocations.ensures)

pub returns-clause-readable : goal.returns-clause-readable
returns-clause-readable c =
    subst IsReadable (sym c.finish.ensures)
    (read_readable c.args.frame.now c.args.keep.now c.is_frame.ensures c.requires.clean (subst IsDraft c.in_ok-builder.ensures c.is_draft.ensures) c.add_relocations.new.builder c.in_ok-add_relocations.ensures)
