-- Each turn adds the line of its section, where that is marked.
use Rattle.std.proofs.Common.{◌≡◌, ◌<◌, ◌-◌, ◌++◌, length, map, Some, refl, ap, arith}
use Rattle.std.specs.List.{filter, range_with_len}
use Rattle.oc_neutral.specs.Mach.SectionSymbols.{needed_sections, needs_section_symbol}
use Rattle.oc_macho_file.specs.Lines.{OwnLine}
use Rattle.oc_macho_write.specs.Lines.{line_in, lines_in}
use Rattle.oc_macho_write.specs.declared.lines.Line.TheVariants as line
use Rattle.oc_macho_write.proofs.LineLemmas.{range_more}
use Rattle.oc_plans.proofs.Turns.{turn_if, whole}
use Rattle.oc_macho_write.proofs.lines.add_marked.Goals as goal

pub loop-k-init : goal.loop-k-init
unfolding needed_sections
loop-k-init c =
    let n = c.args.neutral.now in
    let z : length n.sections - 0 ≡ length n.sections = omega arith in
    ap (λ m. lines_in n c.args.lines.now.items ++ map Some (map OwnLine (filter (needs_section_symbol n) (range_with_len 0 m)))) z

pub loop-k-preserved : goal.loop-k-preserved
loop-k-preserved c =
    let n = c.args.neutral.now in
    let k = c.loop-k.k in
    let low : k < length n.sections = omega (arith, c.loop-k-test.true, c.section_count-k-end.ensures) in
    turn_if (line_in n) c.loop-k.lines.items _ (line.Own k) (OwnLine k) _ (needs_section_symbol n k) _ _ _ c.in_ok-give_line.ensures refl (c.requires.each k low)
    (range_more (needs_section_symbol n) k (length n.sections) low) c.loop-k.invariant

pub returns : goal.returns
returns c =
    let n = c.args.neutral.now in
    let k = c.loop-k.k in
    let done : length n.sections - k ≡ 0 = omega (arith, c.loop-k-test.false, c.section_count-k-end.ensures) in
    whole (line_in n) c.loop-k.lines.items _ _ (ap (λ m. map OwnLine (filter (needs_section_symbol n) (range_with_len k m))) done) c.loop-k.invariant
