-- An entry without a fault has a relocation, which nothing stands against.
use Rattle.oc_coff.specs.{Files.{tables_in}, declared.relocation.Relocation.{Relocation}}
use Rattle.std.proofs.Common.{◌+◌, ◌<◌, ◌≤◌, ◌∙◌, length, take, IsOk, refl, sym, ap, subst}
use Rattle.std.specs.Option.{IsSome}
use Rattle.std.proofs.lemmas.Result.{on_ok_weaker}
use Rattle.oc_neutral.specs.{Building.{Draft}, Invariants.{AreBytes}}
use Rattle.oc_shows.specs.Built.{HasAdded}
use Rattle.oc_shows.proofs.BuiltSteps.{added_is}
use Rattle.oc_coff_read.specs.{Adding.{started}, Given.{IsAimed, given_with, reloc_by}}
use Rattle.oc_coff_judge.specs.Relocs.{width_of}
use Rattle.oc_coff_read.proofs.{AddedTables.{entry_aimed, entry_inside, entry_of, next_of, ready_next}, MeantRelocs.{aimed_low}}
use Rattle.oc_coff_read.proofs.added_relocs.add_entry.Goals as goal

pub reloc_of-r-requires-clause-there : goal.reloc_of-r-requires-clause-there
reloc_of-r-requires-clause-there c =
    (entry_of c.args.context.word c.args.context.coff.now c.is_headed.ensures (subst AreBytes c.file.ensures c.are_bytes.ensures) c.args.context.keep.now c.args.context.positions.now.sections.now c.args.context.positions.now.symbols.now c.requires.ready c.args.place.now.number c.args.place.now.position c.args.place.now.kind c.args.place.now.table c.args.place.now.contents.now c.requires.place c.requires.kept c.args.entries.now c.requires.entries
    c.args.j (record { place = 0; index = 0 }) c.requires.there).low

pub reloc_for-requires-clause-aimed : goal.reloc_for-requires-clause-aimed
reloc_for-requires-clause-aimed c =
    subst (λ (r : Relocation). IsAimed c.args.context.word (tables_in c.args.context.coff.now) r.SymbolTableIndex) (sym c.reloc_of-r.ensures)
    (entry_aimed c.args.context.word c.args.context.coff.now c.is_headed.ensures (subst AreBytes c.file.ensures c.are_bytes.ensures) c.args.context.keep.now c.args.context.positions.now.sections.now c.args.context.positions.now.symbols.now c.requires.ready c.args.place.now.number c.args.place.now.position c.args.place.now.kind c.args.place.now.table c.args.place.now.contents.now c.requires.place c.requires.kept c.args.entries.now c.requires.entries
    c.args.j (record { place = 0; index = 0 }) c.requires.there)

pub reloc_for-requires-clause-there : goal.reloc_for-requires-clause-there
reloc_for-requires-clause-there c =
    subst (λ (r : Relocation). r.SymbolTableIndex < length (tables_in c.args.context.coff.now).entries) (sym c.reloc_of-r.ensures)
    (aimed_low c.args.context.word c.args.context.coff.now c.is_headed.ensures _
    (entry_aimed c.args.context.word c.args.context.coff.now c.is_headed.ensures (subst AreBytes c.file.ensures c.are_bytes.ensures) c.args.context.keep.now c.args.context.positions.now.sections.now c.args.context.positions.now.symbols.now c.requires.ready c.args.place.now.number c.args.place.now.position c.args.place.now.kind c.args.place.now.table c.args.place.now.contents.now c.requires.place c.requires.kept c.args.entries.now c.requires.entries
    c.args.j (record { place = 0; index = 0 }) c.requires.there))

pub reloc_for-requires-clause-inside : goal.reloc_for-requires-clause-inside
reloc_for-requires-clause-inside c =
    subst (λ (r : Relocation). r.VirtualAddress + width_of c.args.context.word r ≤ length c.args.place.now.contents.now) (sym c.reloc_of-r.ensures)
    (entry_inside c.args.context.word c.args.context.coff.now c.is_headed.ensures (subst AreBytes c.file.ensures c.are_bytes.ensures) c.args.context.keep.now c.args.context.positions.now.sections.now c.args.context.positions.now.symbols.now c.requires.ready c.args.place.now.number c.args.place.now.position c.args.place.now.kind c.args.place.now.table c.args.place.now.contents.now c.requires.place c.requires.kept c.args.entries.now c.requires.entries
    c.args.j (record { place = 0; index = 0 }) c.requires.there)

pub unwrap-reloc-requires : goal.unwrap-reloc-requires
unwrap-reloc-requires c =
    subst (λ o. IsSome o)
    (sym (c.reloc_for.ensures c.args.place.now.position ∙ ap (reloc_by c.args.context.word (tables_in c.args.context.coff.now) c.args.place.now.position c.args.place.now.contents.now) c.reloc_of-r.ensures
    ∙ (next_of c.args.context.word c.args.context.coff.now c.is_headed.ensures (subst AreBytes c.file.ensures c.are_bytes.ensures) c.args.context.keep.now c.args.context.positions.now.sections.now c.args.context.positions.now.symbols.now c.requires.ready c.args.place.now.number c.args.place.now.position c.args.place.now.kind c.args.place.now.table c.args.place.now.contents.now c.requires.place c.requires.kept c.args.entries.now c.requires.entries
    c.args.j (record { place = 0; index = 0 }) c.requires.there).made)) refl

pub add_clean_reloc-requires-clause-add : goal.add_clean_reloc-requires-clause-add
add_clean_reloc-requires-clause-add c = (ready_next
    c.args.context.word c.args.context.coff.now c.is_headed.ensures (subst AreBytes c.file.ensures c.are_bytes.ensures) c.args.context.keep.now c.args.context.positions.now.sections.now c.args.context.positions.now.symbols.now c.requires.ready c.args.place.now.number c.args.place.now.position c.args.place.now.kind c.args.place.now.table c.args.place.now.contents.now c.requires.place c.requires.kept c.args.entries.now c.requires.entries
    c.args.j (record { place = 0; index = 0 }) c.requires.there c.args.builder.now c.requires.before c.reloc_of-r.result c.reloc_of-r.ensures c.unwrap-reloc.result (sym (c.reloc_for.ensures c.args.place.now.position) ∙ c.unwrap-reloc.ensures)).can

pub add_clean_reloc-requires-clause-clean : goal.add_clean_reloc-requires-clause-clean
add_clean_reloc-requires-clause-clean c = subst (λ r. IsOk r) (sym (ready_next
    c.args.context.word c.args.context.coff.now c.is_headed.ensures (subst AreBytes c.file.ensures c.are_bytes.ensures) c.args.context.keep.now c.args.context.positions.now.sections.now c.args.context.positions.now.symbols.now c.requires.ready c.args.place.now.number c.args.place.now.position c.args.place.now.kind c.args.place.now.table c.args.place.now.contents.now c.requires.place c.requires.kept c.args.entries.now c.requires.entries
    c.args.j (record { place = 0; index = 0 }) c.requires.there c.args.builder.now c.requires.before c.reloc_of-r.result c.reloc_of-r.ensures c.unwrap-reloc.result (sym (c.reloc_for.ensures c.args.place.now.position) ∙ c.unwrap-reloc.ensures)).ok) refl

pub returns : goal.returns
returns c =
    on_ok_weaker c.add_clean_reloc.result (λ ok. subst (λ (d : Draft). HasAdded (started c.args.context.word c.args.context.coff.now) d (given_with c.args.context.word (tables_in c.args.context.coff.now) c.args.context.keep.now c.args.place.now.position (take (c.args.j + 1) c.args.entries.now)))
    (sym (added_is _ (ready_next
    c.args.context.word c.args.context.coff.now c.is_headed.ensures (subst AreBytes c.file.ensures c.are_bytes.ensures) c.args.context.keep.now c.args.context.positions.now.sections.now c.args.context.positions.now.symbols.now c.requires.ready c.args.place.now.number c.args.place.now.position c.args.place.now.kind c.args.place.now.table c.args.place.now.contents.now c.requires.place c.requires.kept c.args.entries.now c.requires.entries
    c.args.j (record { place = 0; index = 0 }) c.requires.there c.args.builder.now c.requires.before c.reloc_of-r.result c.reloc_of-r.ensures c.unwrap-reloc.result (sym (c.reloc_for.ensures c.args.place.now.position) ∙ c.unwrap-reloc.ensures)).next c.add_clean_reloc.new.self (ready_next
    c.args.context.word c.args.context.coff.now c.is_headed.ensures (subst AreBytes c.file.ensures c.are_bytes.ensures) c.args.context.keep.now c.args.context.positions.now.sections.now c.args.context.positions.now.symbols.now c.requires.ready c.args.place.now.number c.args.place.now.position c.args.place.now.kind c.args.place.now.table c.args.place.now.contents.now c.requires.place c.requires.kept c.args.entries.now c.requires.entries
    c.args.j (record { place = 0; index = 0 }) c.requires.there c.args.builder.now c.requires.before c.reloc_of-r.result c.reloc_of-r.ensures c.unwrap-reloc.result (sym (c.reloc_for.ensures c.args.place.now.position) ∙ c.unwrap-reloc.ensures)).ok ok)) (ready_next
    c.args.context.word c.args.context.coff.now c.is_headed.ensures (subst AreBytes c.file.ensures c.are_bytes.ensures) c.args.context.keep.now c.args.context.positions.now.sections.now c.args.context.positions.now.symbols.now c.requires.ready c.args.place.now.number c.args.place.now.position c.args.place.now.kind c.args.place.now.table c.args.place.now.contents.now c.requires.place c.requires.kept c.args.entries.now c.requires.entries
    c.args.j (record { place = 0; index = 0 }) c.requires.there c.args.builder.now c.requires.before c.reloc_of-r.result c.reloc_of-r.ensures c.unwrap-reloc.result (sym (c.reloc_for.ensures c.args.place.now.position) ∙ c.unwrap-reloc.ensures)).added) c.add_clean_reloc.ensures.added
