-- Each turn makes the header of the next section.
use Rattle.std.proofs.Common.{◌<◌, ◌≤◌, List, [], ◌∷◌, ◌++◌, length, map, ap, ◌∙◌, arith}
use Rattle.std.specs.List.{enumerate_from}
use Rattle.std.proofs.lemmas.List.{drop_all}
use Rattle.oc_neutral.proofs.Positions.{there_at}
use Rattle.oc_target.proofs.Giving.{more_given, all_given}
use Rattle.oc_macho.specs.declared.section_header.SectionHeader.{SectionHeader}
use Rattle.oc_macho_file.specs.Canonical.{section_header}
use Rattle.oc_plans.proofs.Turns.{map_step}
use Rattle.oc_macho_write.proofs.headers.section_headers.Goals as goal

pub loop-k-preserved : goal.loop-k-preserved
loop-k-preserved c =
    let w = c.args.output.now.word in
    let n = c.args.output.now.neutral.now in
    let k = c.loop-k.k in
    let low : k < length n.sections = omega (arith, c.loop-k-test.true, c.section_count-count.ensures) in
    let x = there_at n.sections k low in
    more_given c.loop-k.headers.items _ _ _ (section_header w n (k, x.0) ∷ []) _
    (◌∙◌ {A = List SectionHeader} c.in_ok-push.ensures.items (ap (λ (h : SectionHeader). c.loop-k.headers.items ++ h ∷ []) (c.section_header.ensures x.0 x.1)))
    (map_step (section_header w n) n.sections k x.0 x.1) c.loop-k.invariant

pub returns : goal.returns
returns c =
    let w = c.args.output.now.word in
    let n = c.args.output.now.neutral.now in
    let k = c.loop-k.k in
    let done : length n.sections ≤ k = omega (arith, c.loop-k-test.false, c.section_count-count.ensures) in
    all_given c.loop-k.headers.items _ _ (ap (λ xs. map (section_header w n) (enumerate_from k xs)) (drop_all k n.sections done)) c.loop-k.invariant
