-- Each turn adds the lines of its section.
use Rattle.std.proofs.Common.{◌≤◌, ◌<◌, None, length, arith}
use Rattle.std.specs.Prelude.{slice_index_or}
use Rattle.oc_coff_write.proofs.LineLemmas.{section_turn, sections_whole}
use Rattle.oc_neutral.proofs.Positions.{there_at}
use Rattle.oc_coff_write.proofs.lines.add_sections.Goals as goal

pub loop-k-preserved : goal.loop-k-preserved
loop-k-preserved c =
    let n = c.args.neutral.now in
    let k = c.loop-k.k in
    let low : k < length n.sections = omega (arith, c.loop-k-test.true, c.section_count-k-end.ensures) in
    let s = there_at n.sections k low in
    let is = c.requires.each k low in
    section_turn n k s.0 (slice_index_or c.args.keys.now k None) _ _ _ c.is_object.ensures.built.distinct s.1 is c.in_ok-add_section.ensures c.loop-k.invariant

pub returns : goal.returns
returns c =
    let n = c.args.neutral.now in
    let done : length n.sections ≤ c.loop-k.k = omega (arith, c.loop-k-test.false, c.section_count-k-end.ensures) in
    sections_whole n c.loop-k.k _ _ done c.loop-k.invariant
