-- A section without a fault passes no limit, so it is added.
use Rattle.std.proofs.Common.{◌≡◌, ◌+◌, ◌∙◌, List, [], length, sym, ap, subst, arith, IsOk, refl}
use Rattle.std.specs.Prelude.{slice_get}
use Rattle.std.proofs.lemmas.Option.{same_Some}
use Rattle.oc_neutral.specs.{Building.{Draft, section_added}, Invariants.{HasItsBytes}}
use Rattle.oc_shows.specs.Started.{stored_section}
use Rattle.oc_shows.proofs.BuiltSteps.{added_is}
use Rattle.oc_omf.specs.{declared.structures.Segment.{Segment}, Entries.{entries_in}, Sections.{section_of}, Tables.{tables_of}}
use Rattle.oc_omf_read.specs.Built.{sectioned}
use Rattle.oc_omf_read.proofs.{BuildLemmas.{bytes_long, next_added, next_room, next_small, section_known, segment_there}, SumLemmas.{few_segments}}
use Rattle.oc_omf_read.proofs.built_sections.add_section.Goals as goal

pub section_of-requires-clause-few : goal.section_of-requires-clause-few
section_of-requires-clause-few c =
    let few = few_segments c.args.omf.now in
    let small = c.is_module.ensures.small in
    let low = c.requires.there in
    omega (arith, few, small, low)

pub section_of-requires-clause-small : goal.section_of-requires-clause-small
section_of-requires-clause-small c = λ s here.
    next_small c.args.omf.now c.is_module.ensures c.requires.clean c.args.k s (sym (ap (λ (xs : List Segment). slice_get xs c.args.k) c.requires.known.segments_are) ∙ here)

pub add_clean_section-requires-clause-room : goal.add_clean_section-requires-clause-room
add_clean_section-requires-clause-room c =
    let there = segment_there (tables_of (entries_in c.args.omf.now)).segments c.args.k c.requires.there in
    let long = ap (λ (d : Draft). length d.object.sections) c.requires.before in
    let room = next_room c.args.omf.now c.is_module.ensures c.requires.clean c.args.k there.0 there.1 in
    let few = few_segments c.args.omf.now in
    let small = c.is_module.ensures.small in
    let low = c.requires.there in
    omega (arith, long, room, few, small, low)

pub add_clean_section-requires-clause-bytes : goal.add_clean_section-requires-clause-bytes
add_clean_section-requires-clause-bytes c =
    let t = tables_of (entries_in c.args.omf.now) in
    let there = segment_there t.segments c.args.k c.requires.there in
    let is : c.in_ok-section.section ≡ stored_section [] (section_of t (c.args.k + 1, there.0))
    = same_Some c.in_ok-section.section _ (sym c.in_ok-section.ensures ∙ section_known t c.args.known.now c.requires.known c.args.k there.0 there.1 c.args.bytes.now c.requires.bytes) in
    subst HasItsBytes (sym is) (bytes_long c.args.omf.now c.args.k there.0 there.1 c.args.bytes.now c.requires.bytes c.requires.long)

pub add_clean_section-requires-clause-clean : goal.add_clean_section-requires-clause-clean
add_clean_section-requires-clause-clean c =
    let t = tables_of (entries_in c.args.omf.now) in
    let there = segment_there t.segments c.args.k c.requires.there in
    let is : c.in_ok-section.section ≡ stored_section [] (section_of t (c.args.k + 1, there.0))
    = same_Some c.in_ok-section.section _ (sym c.in_ok-section.ensures ∙ section_known t c.args.known.now c.requires.known c.args.k there.0 there.1 c.args.bytes.now c.requires.bytes) in
    subst (λ r. IsOk r)
    (sym (ap (λ (d : Draft). section_added d c.in_ok-section.section) c.requires.before ∙ ap (section_added (sectioned t c.args.k)) is ∙ next_added c.args.omf.now c.is_module.ensures c.requires.clean c.args.k there.0 there.1))
    refl

pub returns : goal.returns
returns c =
    let t = tables_of (entries_in c.args.omf.now) in
    let there = segment_there t.segments c.args.k c.requires.there in
    let is : c.in_ok-section.section ≡ stored_section [] (section_of t (c.args.k + 1, there.0))
    = same_Some c.in_ok-section.section _ (sym c.in_ok-section.ensures ∙ section_known t c.args.known.now c.requires.known c.args.k there.0 there.1 c.args.bytes.now c.requires.bytes) in
    added_is _ (sectioned t (c.args.k + 1)) _
    (ap (λ (d : Draft). section_added d c.in_ok-section.section) c.requires.before ∙ ap (section_added (sectioned t c.args.k)) is ∙ next_added c.args.omf.now c.is_module.ensures c.requires.clean c.args.k there.0 there.1)
    c.in_ok-add_clean_section.ensures.added
