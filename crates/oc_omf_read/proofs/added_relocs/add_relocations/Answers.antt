-- Each field has a relocation, which nothing stands against; nothing is given for no fields, and all for all.
use Rattle.std.proofs.Common.{◌≡◌, ◌+◌, ◌<◌, ◌≤◌, List, length, take, refl, sym, subst, arith}
use Rattle.std.specs.{Prelude.{IsOk}, List.Sorted.{IsPermutation}}
use Rattle.oc_neutral.specs.Building.{Draft}
use Rattle.oc_shows.specs.Built.{HasAdded}
use Rattle.oc_shows.proofs.BuiltSteps.{added_is, added_same}
use Rattle.oc_omf.specs.{Entries.{entries_in}, Fields.{fixups_in}}
use Rattle.oc_omf_read.specs.{declared.fields.FixupField.{FixupField}, Aims.{meaning_seen}, Built.{started}, Contents.{items_at}}
use Rattle.oc_omf_read.specs.{Fields.{fields_of, given_with}, Given.{given_at}}
use Rattle.oc_omf_read.proofs.ReadyFields.{ready_done, ready_inside, ready_section, taken_as}
use Rattle.oc_omf_read.proofs.added_relocs.add_relocations.Goals as goal

pub number_in-number-requires-clause-there : goal.number_in-number-requires-clause-there
number_in-number-requires-clause-there c =
    let x = c.args.context.now in
    let fields : List FixupField = c.sort_by_place.new.fields.items in
    let are : IsPermutation (fields_of (meaning_seen x) x.keep (fixups_in (entries_in x.omf.now))) fields
    = subst (λ (xs : List FixupField). IsPermutation xs fields) c.in_ok-fields.ensures c.sort_by_place.ensures in
    let j = c.loop-j.j in
    let low : j < length fields = omega (arith, c.loop-j-test.true, c.len-j-end.ensures) in
    let f : FixupField = c.index.result.now in
    subst (λ (g : FixupField). g.section < length c.args.contents.now) (sym c.index.ensures) (ready_section x c.args.contents.now c.requires.ready fields are j f low)

pub number_in-number-requires-clause-inside : goal.number_in-number-requires-clause-inside
number_in-number-requires-clause-inside c =
    let x = c.args.context.now in
    let fields : List FixupField = c.sort_by_place.new.fields.items in
    let are : IsPermutation (fields_of (meaning_seen x) x.keep (fixups_in (entries_in x.omf.now))) fields
    = subst (λ (xs : List FixupField). IsPermutation xs fields) c.in_ok-fields.ensures c.sort_by_place.ensures in
    let j = c.loop-j.j in
    let low : j < length fields = omega (arith, c.loop-j-test.true, c.len-j-end.ensures) in
    let f : FixupField = c.index.result.now in
    subst (λ (g : FixupField). g.at + 4 ≤ length (items_at c.args.contents.now g.section)) (sym c.index.ensures) (ready_inside x c.args.contents.now c.requires.ready fields are j f low)

pub add_clean_reloc-requires-clause-add : goal.add_clean_reloc-requires-clause-add
add_clean_reloc-requires-clause-add c =
    let x = c.args.context.now in
    let fields : List FixupField = c.sort_by_place.new.fields.items in
    let are : IsPermutation (fields_of (meaning_seen x) x.keep (fixups_in (entries_in x.omf.now))) fields
    = subst (λ (xs : List FixupField). IsPermutation xs fields) c.in_ok-fields.ensures c.sort_by_place.ensures in
    let j = c.loop-j.j in
    let low : j < length fields = omega (arith, c.loop-j-test.true, c.len-j-end.ensures) in
    let f : FixupField = c.index.result.now in
    let taken = taken_as x c.args.contents.now c.requires.ready fields are j f low f c.index.ensures c.loop-j.builder c.loop-j.invariant c.number_in-number.result c.reloc_of.result c.number_in-number.ensures c.reloc_of.ensures in
    taken.can

pub add_clean_reloc-requires-clause-clean : goal.add_clean_reloc-requires-clause-clean
add_clean_reloc-requires-clause-clean c =
    let x = c.args.context.now in
    let fields : List FixupField = c.sort_by_place.new.fields.items in
    let are : IsPermutation (fields_of (meaning_seen x) x.keep (fixups_in (entries_in x.omf.now))) fields
    = subst (λ (xs : List FixupField). IsPermutation xs fields) c.in_ok-fields.ensures c.sort_by_place.ensures in
    let j = c.loop-j.j in
    let low : j < length fields = omega (arith, c.loop-j-test.true, c.len-j-end.ensures) in
    let f : FixupField = c.index.result.now in
    let taken = taken_as x c.args.contents.now c.requires.ready fields are j f low f c.index.ensures c.loop-j.builder c.loop-j.invariant c.number_in-number.result c.reloc_of.result c.number_in-number.ensures c.reloc_of.ensures in
    subst (λ r. IsOk r) (sym taken.ok) refl

pub loop-j-preserved : goal.loop-j-preserved
loop-j-preserved c =
    let x = c.args.context.now in
    let fields : List FixupField = c.sort_by_place.new.fields.items in
    let are : IsPermutation (fields_of (meaning_seen x) x.keep (fixups_in (entries_in x.omf.now))) fields
    = subst (λ (xs : List FixupField). IsPermutation xs fields) c.in_ok-fields.ensures c.sort_by_place.ensures in
    let j = c.loop-j.j in
    let low : j < length fields = omega (arith, c.loop-j-test.true, c.len-j-end.ensures) in
    let f : FixupField = c.index.result.now in
    let taken = taken_as x c.args.contents.now c.requires.ready fields are j f low f c.index.ensures c.loop-j.builder c.loop-j.invariant c.number_in-number.result c.reloc_of.result c.number_in-number.ensures c.reloc_of.ensures in
    subst (λ (d : Draft). HasAdded (started x.omf.now) d (given_with (entries_in x.omf.now) x.keep (take (j + 1) fields))) (sym (added_is _ taken.next c.add_clean_reloc.new.self taken.ok c.in_ok-add_clean_reloc.ensures.added)) taken.added

pub returns : goal.returns
returns c =
    let x = c.args.context.now in
    let fields : List FixupField = c.sort_by_place.new.fields.items in
    let are : IsPermutation (fields_of (meaning_seen x) x.keep (fixups_in (entries_in x.omf.now))) fields
    = subst (λ (xs : List FixupField). IsPermutation xs fields) c.in_ok-fields.ensures c.sort_by_place.ensures in
    let end : c.loop-j.j ≡ length fields = omega (arith, c.loop-j-test.false, c.len-j-end.ensures, c.loop-j.auto.j-end) in
    added_same (started x.omf.now) c.loop-j.builder (given_with (entries_in x.omf.now) x.keep (take c.loop-j.j fields)) (given_at (entries_in x.omf.now) x.keep) c.loop-j.invariant
    (ready_done x c.args.contents.now c.requires.ready fields are c.loop-j.j end)
