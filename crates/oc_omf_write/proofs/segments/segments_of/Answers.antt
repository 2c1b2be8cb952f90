-- The name and the class of each section are among the names.
use Rattle.std.proofs.Common.{Some, sym, ◌∙◌, ap}
use Rattle.std.proofs.lemmas.Option.{slice_get-get_or}
use Rattle.oc_neutral.proofs.Positions.{each_at}
use Rattle.oc_omf_write.specs.Names.{IsSegment}
use Rattle.oc_omf_write.proofs.SegmentLemmas.{name_indexed, class_indexed}
use Rattle.oc_omf_write.proofs.segments.segments_of.Goals as goal

pub segment_of-requires-clause-name : goal.segment_of-requires-clause-name
segment_of-requires-clause-name c =
    let sections = c.args.sections.now in
    let k = c.loop-section.section-index in
    let s = c.section-item.result in
    name_indexed sections c.args.names.now c.requires.names c.requires.few k s (slice_get-get_or sections k s c.loop-section-test.true ∙ ap Some (sym c.section-item.is))

pub segment_of-requires-clause-segment : goal.segment_of-requires-clause-segment
segment_of-requires-clause-segment c =
    let sections = c.args.sections.now in
    let k = c.loop-section.section-index in
    let s = c.section-item.result in
    each_at IsSegment sections k s c.requires.segments (slice_get-get_or sections k s c.loop-section-test.true ∙ ap Some (sym c.section-item.is))

pub segment_of-requires-clause-class : goal.segment_of-requires-clause-class
segment_of-requires-clause-class c =
    let sections = c.args.sections.now in
    let k = c.loop-section.section-index in
    let s = c.section-item.result in
    class_indexed sections c.args.names.now c.requires.names c.requires.few k s (slice_get-get_or sections k s c.loop-section-test.true ∙ ap Some (sym c.section-item.is))
