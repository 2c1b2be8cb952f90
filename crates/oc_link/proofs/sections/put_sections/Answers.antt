use Rattle.std.proofs.Common.{◌≤◌, ◌∙◌, ◌++◌, ap, arith, length, string_bytes, sym, take}
use Rattle.std.specs.List.{enumerate_from, flat_map}
use Rattle.std.proofs.lemmas.{List.{append_assoc, length-map, take_all}, List.FromFn.{length-enumerate_from}}
use Rattle.oc_base.specs.Formats.{word_for}
use Rattle.oc_neutral.specs.Faces.{shown_section, shown_sections, frame_of}
use Rattle.oc_neutral.proofs.Positions.{there_at}
use Rattle.oc_dump.proofs.LineLemmas.{flat_map-next}
use Rattle.oc_link.specs.{Texts.{section_text}, Pieces.{frames, images, section_text_of}, Values.{laid}}
use Rattle.oc_link.proofs.TextLemmas.{listed_at, section_at}
use Rattle.oc_link.proofs.sections.put_sections.Goals as goal

pub loop-section-preserved : goal.loop-section-preserved
loop-section-preserved c =
    let n = c.args.object.now in
    let x = c.args.placed.now in
    let k = c.loop-section.section in
    let inside = c.loop-section-test.true in
    let end = c.section_count-section-end.ensures in
    let y = there_at n.sections k (omega (arith, inside, end)) in
    let f = section_text (word_for n.format) (laid n x) (images n x) in
    let all = enumerate_from 0 (frames n) in
    c.in_ok-put_section.ensures
    ∙ ap (λ text. text ++ section_text_of n x k) c.loop-section.invariant
    ∙ append_assoc (string_bytes c.args.out.now) (flat_map f (take k all)) (section_text_of n x k)
    ∙ ap (λ more. string_bytes c.args.out.now ++ (flat_map f (take k all) ++ more)) (section_at n x k y.0 y.1)
    ∙ ap (λ more. string_bytes c.args.out.now ++ more) (sym (flat_map-next f all k (k, frame_of (shown_section n.groups y.0)) (listed_at n x k y.0 y.1)))

pub returns : goal.returns
returns c =
    let n = c.args.object.now in
    let x = c.args.placed.now in
    let k = c.loop-section.section in
    let one = length-enumerate_from 0 (frames n) in
    let two = length-map (shown_sections n) frame_of in
    let three = length-map n.sections (shown_section n.groups) in
    let end = c.section_count-section-end.ensures in
    let past : length (enumerate_from 0 (frames n)) ≤ k = omega (arith, one, two, three, end, c.loop-section-test.false) in
    c.loop-section.invariant ∙ ap (λ xs. string_bytes c.args.out.now ++ flat_map (section_text (word_for n.format) (laid n x) (images n x)) xs) (take_all k (enumerate_from 0 (frames n)) past)
