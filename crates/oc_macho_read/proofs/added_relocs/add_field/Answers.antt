-- A field without a fault has a relocation, which nothing stands against.
use Rattle.std.proofs.Common.{◌+◌, take, refl, sym, ◌∙◌, subst}
use Rattle.std.specs.Prelude.{IsOk}
use Rattle.oc_neutral.specs.Building.{Draft}
use Rattle.oc_shows.specs.Built.{HasAdded}
use Rattle.std.proofs.lemmas.Result.{on_ok_weaker}
use Rattle.oc_shows.proofs.BuiltSteps.{added_is}
use Rattle.oc_macho_read.specs.{Built.{started}, Given.{given_with}}
use Rattle.oc_macho_read.proofs.StepLemmas.{index_begins, index_low, item_aimed, item_inside, item_next, item_some}
use Rattle.oc_macho_read.proofs.added_relocs.add_field.Goals as goal

pub item_of-item-requires-clause-there : goal.item_of-item-requires-clause-there
item_of-item-requires-clause-there c =
    index_low c.args.frame.now c.args.known.now.keep c.args.known.now.positions.now c.requires.ready c.args.i c.args.h.now c.requires.table c.requires.kept c.args.fields.now c.requires.fields c.args.j (record { place = 0; index = 0 }) c.requires.there

pub item_of-item-requires-clause-begins : goal.item_of-item-requires-clause-begins
item_of-item-requires-clause-begins c =
    index_begins c.args.frame.now c.args.known.now.keep c.args.known.now.positions.now c.requires.ready c.args.i c.args.h.now c.requires.table c.requires.kept c.args.fields.now c.requires.fields c.args.j (record { place = 0; index = 0 }) c.requires.there

pub reloc_for-requires-clause-read : goal.reloc_for-requires-clause-read
reloc_for-requires-clause-read c = let ready = c.requires.ready in record { word = ready.word; file = ready.file; are = ready.tables; bytes = ready.bytes }

pub reloc_for-requires-clause-positions : goal.reloc_for-requires-clause-positions
reloc_for-requires-clause-positions c = c.requires.ready.positions_are

pub reloc_for-requires-clause-aimed : goal.reloc_for-requires-clause-aimed
reloc_for-requires-clause-aimed c =
    item_aimed c.args.frame.now c.args.known.now.keep c.args.known.now.positions.now c.requires.ready c.args.i c.args.h.now c.requires.table c.requires.kept c.args.fields.now c.requires.fields c.args.j (record { place = 0; index = 0 }) c.requires.there
    c.item_of-item.result c.item_of-item.ensures.item

pub reloc_for-requires-clause-inside : goal.reloc_for-requires-clause-inside
reloc_for-requires-clause-inside c =
    item_inside c.args.frame.now c.args.known.now.keep c.args.known.now.positions.now c.requires.ready c.args.i c.args.h.now c.requires.table c.requires.kept c.args.fields.now c.requires.fields c.args.j (record { place = 0; index = 0 }) c.requires.there
    c.item_of-item.result c.item_of-item.ensures.item

pub unwrap-reloc-requires : goal.unwrap-reloc-requires
unwrap-reloc-requires c =
    item_some c.args.frame.now c.args.known.now.keep c.args.known.now.positions.now c.requires.ready c.args.i c.args.h.now c.requires.table c.requires.kept c.args.fields.now c.requires.fields c.args.j (record { place = 0; index = 0 }) c.requires.there
    c.item_of-item.result c.item_of-item.ensures.item c.reloc_for.result c.reloc_for.ensures

pub add_clean_reloc-requires-clause-add : goal.add_clean_reloc-requires-clause-add
add_clean_reloc-requires-clause-add c =
    (item_next c.args.frame.now c.args.known.now.keep c.args.known.now.positions.now c.requires.ready c.args.i c.args.h.now c.requires.table c.requires.kept c.args.fields.now c.requires.fields c.args.j (record { place = 0; index = 0 }) c.requires.there
    c.item_of-item.result c.item_of-item.ensures.item c.args.builder.now c.requires.before c.unwrap-reloc.result (sym c.reloc_for.ensures ∙ c.unwrap-reloc.ensures)).can

pub add_clean_reloc-requires-clause-clean : goal.add_clean_reloc-requires-clause-clean
add_clean_reloc-requires-clause-clean c =
    subst (λ r. IsOk r) (sym (item_next c.args.frame.now c.args.known.now.keep c.args.known.now.positions.now c.requires.ready c.args.i c.args.h.now c.requires.table c.requires.kept c.args.fields.now c.requires.fields c.args.j (record { place = 0; index = 0 }) c.requires.there
    c.item_of-item.result c.item_of-item.ensures.item c.args.builder.now c.requires.before c.unwrap-reloc.result (sym c.reloc_for.ensures ∙ c.unwrap-reloc.ensures)).ok) refl

pub returns : goal.returns
returns c =
    let m = item_next c.args.frame.now c.args.known.now.keep c.args.known.now.positions.now c.requires.ready c.args.i c.args.h.now c.requires.table c.requires.kept c.args.fields.now c.requires.fields c.args.j (record { place = 0; index = 0 }) c.requires.there
    c.item_of-item.result c.item_of-item.ensures.item c.args.builder.now c.requires.before c.unwrap-reloc.result (sym c.reloc_for.ensures ∙ c.unwrap-reloc.ensures) in
    on_ok_weaker c.add_clean_reloc.result
    (λ ok. subst (λ (d : Draft). HasAdded (started c.args.frame.now c.args.known.now.keep) d (given_with c.args.frame.now c.args.known.now.keep c.args.i (take (c.args.j + 1) c.args.fields.now))) (sym (added_is _ m.next c.add_clean_reloc.new.self m.ok ok)) m.added)
    c.add_clean_reloc.ensures.added
