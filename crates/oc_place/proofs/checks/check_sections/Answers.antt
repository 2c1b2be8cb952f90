use Rattle.std.proofs.Common.{◌∙◌, ◌+◌, ap, arith, length}
use Rattle.oc_linking.proofs.Upto.{first_upto_stop}
use Rattle.oc_place.specs.{Placings.{section_bad, at_position}, Footprints.{footprint_of}}
use Rattle.oc_place.proofs.checks.check_sections.Goals as goal

pub returns-in-Some : goal.returns-in-Some
returns-in-Some c =
    let n = c.args.object.now in
    let inside = c.loop-k-test.true in
    let end = c.section_count-k-end.ensures in
    first_upto_stop (section_bad (footprint_of n) c.args.notebook.now) c.loop-k.k (length n.sections) (record { line = c.loop-k.k + 1; code = c.in-Some.code }) c.loop-k.invariant (c.section_code.ensures ∙ ap (at_position c.loop-k.k) c.in-Some.is) (omega (arith, inside, end))
