-- What is built can be finished, and what is read shows the file.
use Rattle.std.proofs.Common.{sym, subst, arith}
use Rattle.oc_neutral.specs.Invariants.{IsDraft}
use Rattle.oc_shows.specs.{Readable.{IsReadable}, Shows.{Shows}}
use Rattle.oc_macho.specs.Rules.{mach_dialect}
use Rattle.oc_macho_read.proofs.{ShownLemmas.{stages_clean}, WholeLemmas.{start_of_tables, whole_complete, whole_readable, whole_shows}}
use Rattle.oc_macho_read.proofs.reader.object_of.Goals as goal

pub start-requires-clause-read : goal.start-requires-clause-read
start-requires-clause-read c = record { word = c.args.found.now.frame.word; file = c.args.file.now; are = c.requires.tables; bytes = c.are_bytes.ensures }

pub start-requires-clause-clean : goal.start-requires-clause-clean
start-requires-clause-clean c = stages_clean c.args.found.now.frame c.args.keep.now c.requires.clean

pub add_relocations-requires-clause-ready : goal.add_relocations-requires-clause-ready
add_relocations-requires-clause-ready c = record {
  word = c.args.found.now.frame.word;
  file = c.args.file.now;
  tables = c.requires.tables;
  bytes = c.are_bytes.ensures;
  clean = stages_clean c.args.found.now.frame c.args.keep.now c.requires.clean;
  positions_are = c.in_ok-builder.ensures.placed;
  start = start_of_tables c.args.found.now.frame c.args.found.now.frame.word c.args.file.now c.args.keep.now c.requires.tables (subst IsDraft c.in_ok-builder.ensures.started c.is_draft.ensures);
}

pub add_relocations-requires-clause-before : goal.add_relocations-requires-clause-before
add_relocations-requires-clause-before c = c.in_ok-builder.ensures.started

pub finish-requires : goal.finish-requires
finish-requires c =
    let few = c.symbol_count-count.ensures.few in
    let count = c.symbol_count-count.ensures.count in
    whole_complete c.args.found.now.frame c.args.found.now.frame.word c.args.file.now c.args.keep.now c.requires.tables c.are_bytes.ensures (stages_clean c.args.found.now.frame c.args.keep.now c.requires.clean)
    (subst IsDraft c.in_ok-builder.ensures.started c.is_draft.ensures) c.add_relocations.new.builder c.in_ok-add_relocations.ensures (omega (arith, few, count))

pub returns-clause-shows : goal.returns-clause-shows
returns-clause-shows c =
    subst (Shows (mach_dialect c.args.found.now.frame.word) c.args.file.now c.args.keep.now) (sym c.finish.ensures)
    (whole_shows c.args.found.now.frame c.args.found.now.frame.word c.args.file.now c.args.keep.now c.requires.tables c.are_bytes.ensures (stages_clean c.args.found.now.frame c.args.keep.now c.requires.clean)
    (subst IsDraft c.in_ok-builder.ensures.started c.is_draft.ensures) c.add_relocations.new.builder c.in_ok-add_relocations.ensures)

pub returns-clause-readable : goal.returns-clause-readable
returns-clause-readable c =
    subst IsReadable (sym c.finish.ensures)
    (whole_readable c.args.found.now.frame c.args.found.now.frame.word c.args.file.now c.args.keep.now c.requires.tables c.are_bytes.ensures (stages_clean c.args.found.now.frame c.args.keep.now c.requires.clean)
    (subst IsDraft c.in_ok-builder.ensures.started c.is_draft.ensures) c.add_relocations.new.builder c.in_ok-add_relocations.ensures)
