-- Each turn adds the entries of the next section.
use Rattle.std.proofs.Common.{◌≡◌, ◌<◌, ◌++◌, ℕ, List, length, map, get_or, sym, ◌∙◌, ap, subst, arith, Vec, Global}
use Rattle.std.proofs.lemmas.{List.{length-map}, Option.{slice_get-get_or}}
use Rattle.oc_neutral.specs.declared.section.Section.{Section}
use Rattle.oc_omf_write.specs.{declared.fixups.Fixup.{Fixup}, Pieces.{FollowWithin, fixups_at, section_entries}}
use Rattle.oc_omf_write.proofs.DataLemmas.{fixups_indexed, data_more, data_done}
use Rattle.oc_omf_write.proofs.pieces.add_data.Goals as goal

pub add_section-requires-clause-small : goal.add_section-requires-clause-small
add_section-requires-clause-small c =
    let k = c.loop-k.k in
    let s : Section = get_or c.args.sections.now k c.index-sections-k.result in
    let low = c.requires.fixups.small k s (slice_get-get_or c.args.sections.now k c.index-sections-k.result c.loop-k-test.true) in
    let same : length c.as_slice.result.now ≡ length s.bytes = ap length c.as_slice.ensures in
    omega (arith, low, same)

pub add_section-requires-clause-fixups : goal.add_section-requires-clause-fixups
add_section-requires-clause-fixups c =
    let k = c.loop-k.k in
    let fixups = c.args.fixups.now in
    let s : Section = get_or c.args.sections.now k c.index-sections-k.result in
    let here = slice_get-get_or c.args.sections.now k c.index-sections-k.result c.loop-k-test.true in
    let mapped = length-map fixups (λ (v : Vec Fixup Global). v.items) in
    let counted = c.requires.fixups.counted in
    let more = c.loop-k-test.true in
    let low : k < length fixups = omega (arith, mapped, counted, more) in
    let own = fixups_indexed fixups k c.index-fixups-k.result low ∙ ap (λ (v : Vec Fixup Global). v.items) (sym c.index-fixups-k.is) in
    subst (λ (xs : List ℕ). FollowWithin 0 (length xs) c.deref.result.now) (sym c.as_slice.ensures)
    (subst (FollowWithin 0 (length s.bytes)) (own ∙ sym c.deref.ensures.value) (c.requires.fixups.each k s here))

pub loop-k-preserved : goal.loop-k-preserved
loop-k-preserved c =
    let k = c.loop-k.k in
    let fixups = c.args.fixups.now in
    let sections = c.args.sections.now in
    let s : Section = get_or sections k c.index-sections-k.result in
    let here = slice_get-get_or sections k c.index-sections-k.result c.loop-k-test.true in
    let mapped = length-map fixups (λ (v : Vec Fixup Global). v.items) in
    let counted = c.requires.fixups.counted in
    let more = c.loop-k-test.true in
    let low : k < length fixups = omega (arith, mapped, counted, more) in
    let own = fixups_indexed fixups k c.index-fixups-k.result low ∙ ap (λ (v : Vec Fixup Global). v.items) (sym c.index-fixups-k.is) in
    data_more (map (λ (v : Vec Fixup Global). v.items) fixups) sections k s c.loop-k.entries.items c.add_section.new.entries.items _ here
    (c.in_ok-add_section.ensures
    ∙ ap (λ (xs : List Fixup). c.loop-k.entries.items ++ section_entries k xs (length c.as_slice.result.now)) (c.deref.ensures.value ∙ sym own)
    ∙ ap (λ (xs : List ℕ). c.loop-k.entries.items ++ section_entries k (fixups_at (map (λ (v : Vec Fixup Global). v.items) fixups) k) (length xs)) c.as_slice.ensures)
    c.loop-k.invariant

pub returns : goal.returns
returns c = data_done (map (λ (v : Vec Fixup Global). v.items) c.args.fixups.now) c.args.sections.now c.loop-k.k c.loop-k.entries.items _ c.loop-k-test.false c.loop-k.invariant
