-- What is built of a module without faults can be finished, and shows it.
use Rattle.std.proofs.Common.{length, sym, ◌∙◌, ap, subst, arith}
use Rattle.std.proofs.lemmas.List.{length-map}
use Rattle.oc_neutral.specs.Invariants.{AreBytes, IsDraft}
use Rattle.oc_shows.specs.{Readable.{IsReadable}, Shows.{Shows}}
use Rattle.oc_omf.specs.{Entries.{entries_in}, Rules.{omf_dialect}, Tables.{tables_of}}
use Rattle.oc_omf_read.specs.{Contents.{AreStored}, Declarations.{declaration_of}}
use Rattle.oc_omf_read.proofs.{CountLemmas.{few_declarations}, StartLemmas.{is_started}, WholeFile.{read_complete, read_readable, read_shows}}
use Rattle.oc_omf_read.proofs.reader.object_of.Goals as goal

pub mentions_of-requires : goal.mentions_of-requires
mentions_of-requires c =
    let told = few_declarations c.args.omf.now in
    let same = ap length (sym c.in_ok-declarations.ensures) ∙ length-map c.in_ok-declarations.declarations.items declaration_of in
    let value = ap length c.as_slice.ensures.value in
    let small = c.is_module.ensures.small in
    omega (arith, told, same, value, small)

pub add_relocations-requires-clause-ready : goal.add_relocations-requires-clause-ready
add_relocations-requires-clause-ready c = record {
  bytes = subst AreBytes (sym c.requires.module) c.are_bytes.ensures;
  head = c.is_module.ensures;
  sections = c.requires.sections;
  symbols = c.requires.symbols;
  relocs = c.requires.relocs;
  contents = subst (AreStored (tables_of (entries_in c.args.omf.now)) (tables_of (entries_in c.args.omf.now))) (sym c.as_slice-3.ensures.value) c.in_ok-contents.ensures;
  start = is_started c.args.omf.now c.args.keep.now (subst IsDraft c.in_ok-builder.ensures c.is_draft.ensures);
}

pub finish-requires : goal.finish-requires
finish-requires c =
    read_complete c.args.omf.now (subst AreBytes (sym c.requires.module) c.are_bytes.ensures) c.is_module.ensures c.args.keep.now c.requires.sections c.requires.symbols c.requires.relocs
    (is_started c.args.omf.now c.args.keep.now (subst IsDraft c.in_ok-builder.ensures c.is_draft.ensures)) c.add_relocations.new.builder c.in_ok-add_relocations.ensures

pub returns-clause-shows : goal.returns-clause-shows
returns-clause-shows c =
    subst (Shows omf_dialect c.args.omf.now c.args.keep.now) (sym c.finish.ensures)
    (read_shows c.args.omf.now (subst AreBytes (sym c.requires.module) c.are_bytes.ensures) c.is_module.ensures c.args.keep.now c.requires.sections c.requires.symbols c.requires.relocs
    (is_started c.args.omf.now c.args.keep.now (subst IsDraft c.in_ok-builder.ensures c.is_draft.ensures)) c.add_relocations.new.builder c.in_ok-add_relocations.ensures)

pub returns-clause-readable : goal.returns-clause-readable
returns-clause-readable c =
    subst IsReadable (sym c.finish.ensures)
    (read_readable c.args.omf.now (subst AreBytes (sym c.requires.module) c.are_bytes.ensures) c.is_module.ensures c.args.keep.now c.requires.sections c.requires.symbols c.requires.relocs
    (is_started c.args.omf.now c.args.keep.now (subst IsDraft c.in_ok-builder.ensures c.is_draft.ensures)) c.add_relocations.new.builder c.in_ok-add_relocations.ensures)
