-- Each turn adds the next part.
use Rattle.std.proofs.Common.{◌≤◌, ◌<◌, [], ◌∷◌, length, map, ap, arith}
use Rattle.std.specs.{List.{enumerate_from}, Option.{option_map}}
use Rattle.std.proofs.lemmas.List.{drop_all}
use Rattle.oc_neutral.proofs.Positions.{there_at}
use Rattle.oc_macho_file.specs.Layout.{Relocs, relocs_part}
use Rattle.oc_macho_write.specs.Parts.{part_in}
use Rattle.oc_macho_write.specs.declared.parts.Part.TheVariants as part
use Rattle.oc_plans.proofs.Turns.{map_step, turn, whole}
use Rattle.oc_macho_write.proofs.parts.add_relocs.Goals as goal

pub loop-k-preserved : goal.loop-k-preserved
loop-k-preserved c =
    let n = c.args.neutral.now in
    let k = c.loop-k.k in
    let low : k < length n.sections = omega (arith, c.loop-k-test.true, c.section_count-k-end.ensures) in
    let x = there_at n.sections k low in
    turn (part_in n) c.loop-k.parts.items _ (part.Relocs k ∷ []) (Relocs k x.0 ∷ []) _ _ _ c.in_ok-push.ensures.items (ap (λ o. option_map (Relocs k) o ∷ []) x.1)
    (map_step relocs_part n.sections k x.0 x.1) c.loop-k.invariant

pub returns : goal.returns
returns c =
    let n = c.args.neutral.now in
    let done : length n.sections ≤ c.loop-k.k = omega (arith, c.loop-k-test.false, c.section_count-k-end.ensures) in
    whole (part_in n) c.loop-k.parts.items _ _ (ap (λ xs. map relocs_part (enumerate_from c.loop-k.k xs)) (drop_all c.loop-k.k n.sections done)) c.loop-k.invariant
