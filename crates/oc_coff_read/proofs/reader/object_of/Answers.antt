-- What is built can be finished, and what is read shows the file.
use Rattle.std.proofs.Common.{sym, subst, arith}
use Rattle.oc_neutral.specs.Invariants.{AreBytes, IsDraft}
use Rattle.oc_shows.specs.{Readable.{IsReadable}, Shows.{Shows}}
use Rattle.oc_coff.specs.Rules.{dialect_by}
use Rattle.oc_coff_read.proofs.ShownFile.{read_complete, read_readable, read_shows, stages_clean, start}
use Rattle.oc_coff_judge.proofs.SymbolPositions.{entries_few}
use Rattle.oc_coff_read.proofs.reader.object_of.Goals as goal

pub symbol_positions-requires-clause-clean : goal.symbol_positions-requires-clause-clean
symbol_positions-requires-clause-clean c = (stages_clean c.args.word c.args.coff.now c.args.keep.now c.requires.clean).symbols

pub start-requires-clause-sections : goal.start-requires-clause-sections
start-requires-clause-sections c = (stages_clean c.args.word c.args.coff.now c.args.keep.now c.requires.clean).sections

pub start-requires-clause-symbols : goal.start-requires-clause-symbols
start-requires-clause-symbols c = (stages_clean c.args.word c.args.coff.now c.args.keep.now c.requires.clean).symbols

pub add_relocations-requires-clause-ready : goal.add_relocations-requires-clause-ready
add_relocations-requires-clause-ready c =
    let clean = stages_clean c.args.word c.args.coff.now c.args.keep.now c.requires.clean in
    record {
      sections_clean = clean.sections;
      symbols_clean = clean.symbols;
      relocs_clean = clean.relocs;
      sections_are = c.requires.found.sections_are;
      symbols_are = c.in_ok-symbols.ensures;
      start = start c.args.word c.args.coff.now c.is_headed.ensures (subst AreBytes c.file.ensures c.are_bytes.ensures) c.args.keep.now clean (subst IsDraft c.in_ok-builder.ensures c.is_draft.ensures);
    }

pub finish-requires : goal.finish-requires
finish-requires c =
    let few = entries_few c.args.coff.now c.is_headed.ensures in
    read_complete c.args.word c.args.coff.now c.is_headed.ensures (subst AreBytes c.file.ensures c.are_bytes.ensures) c.args.keep.now (stages_clean c.args.word c.args.coff.now c.args.keep.now c.requires.clean)
    (subst IsDraft c.in_ok-builder.ensures c.is_draft.ensures) c.add_relocations.new.builder c.in_ok-add_relocations.ensures (omega (arith, few))

pub returns-clause-shows : goal.returns-clause-shows
returns-clause-shows c =
    subst (Shows (dialect_by c.args.word c.args.coff.now.shape) c.args.coff.now.bytes c.args.keep.now) (sym c.finish.ensures)
    (read_shows c.args.word c.args.coff.now c.is_headed.ensures (subst AreBytes c.file.ensures c.are_bytes.ensures) c.args.keep.now (stages_clean c.args.word c.args.coff.now c.args.keep.now c.requires.clean)
    (subst IsDraft c.in_ok-builder.ensures c.is_draft.ensures) c.add_relocations.new.builder c.in_ok-add_relocations.ensures)

pub returns-clause-readable : goal.returns-clause-readable
returns-clause-readable c =
    subst IsReadable (sym c.finish.ensures)
    (read_readable c.args.word c.args.coff.now c.is_headed.ensures (subst AreBytes c.file.ensures c.are_bytes.ensures) c.args.keep.now (stages_clean c.args.word c.args.coff.now c.args.keep.now c.requires.clean)
    (subst IsDraft c.in_ok-builder.ensures c.is_draft.ensures) c.add_relocations.new.builder c.in_ok-add_relocations.ensures)
