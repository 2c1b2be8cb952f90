use Rattle.std.proofs.Common.{◌≤◌, ◌∙◌, ap, arith, length, map, sym}
use Rattle.std.proofs.lemmas.List.{drop_all, length-map}
use Rattle.oc_base.specs.Formats.{word_for}
use Rattle.oc_linking.specs.Images.{first_field, overflows}
use Rattle.oc_neutral.specs.Faces.{contents_of}
use Rattle.oc_link.specs.Values.{contents, laid, patches}
use Rattle.oc_link.proofs.ScanLemmas.{length-emptied}
use Rattle.oc_link.proofs.overflow.first_overflow.Goals as goal

pub returns-clause-first : goal.returns-clause-first
returns-clause-first c =
    let n = c.args.object.now in
    let x = c.args.placed.now in
    let k = c.loop-section.section in
    let long = length-emptied (laid n x).discarded 0 (map contents_of n.sections) in
    let mapped = length-map n.sections contents_of in
    let end = c.section_count-section-end.ensures in
    let past : length (contents n x) ≤ k = omega (arith, long, mapped, end, c.loop-section-test.false) in
    sym (ap (first_field (overflows (word_for n.format)) (patches n x) k) (drop_all k (contents n x) past)) ∙ c.loop-section.invariant
