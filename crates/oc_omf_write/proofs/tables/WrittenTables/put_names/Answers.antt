-- The texts of a range of the names.
use Rattle.std.proofs.Common.{◌+◌, ◌≤◌, ◌++◌, List, ℕ, length, sym, ◌∙◌, ap, subst}
use Rattle.std.specs.Prelude.{flat_map}
use Rattle.oc_omf_file.specs.Names.{names_size}
use Rattle.oc_omf.specs.{Bytes.{name_bytes}, declared.contents.TheConstants.{ROOM}}
use Rattle.oc_omf_write.proofs.TableLemmas.{texts_same, range_short}
use Rattle.oc_omf_write.proofs.tables.WrittenTables.put_names.Goals as goal

pub put_names-requires-clause-short : goal.put_names-requires-clause-short
put_names-requires-clause-short c =
    let t = c.args.self.now in
    range_short c.deref.result.now t.sections.items c.deref-2.result.now t.names.items c.names_between.result.now c.args.from c.args.to c.deref.ensures.value c.deref-2.ensures.value c.names_between.ensures
    c.requires.sound.short

pub put_names-requires-clause-room : goal.put_names-requires-clause-room
put_names-requires-clause-room c =
    let t = c.args.self.now in
    subst (λ (xs : List (List ℕ)). length c.args.out.now + names_size xs ≤ ROOM)
    (sym (texts_same c.deref.result.now t.sections.items c.deref-2.result.now t.names.items c.names_between.result.now c.args.from c.args.to c.deref.ensures.value c.deref-2.ensures.value c.names_between.ensures))
    c.requires.room

pub returns : goal.returns
returns c =
    let t = c.args.self.now in
    c.put_names.ensures
    ∙ ap (λ (xs : List (List ℕ)). c.args.out.now ++ flat_map name_bytes xs)
    (texts_same c.deref.result.now t.sections.items c.deref-2.result.now t.names.items c.names_between.result.now c.args.from c.args.to c.deref.ensures.value c.deref-2.ensures.value c.names_between.ensures)
