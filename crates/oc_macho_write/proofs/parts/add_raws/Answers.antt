-- Each turn adds the part of its section, where that has bytes.
use Rattle.std.proofs.Common.{◌≤◌, not, length, map, ap, arith}
use Rattle.std.specs.{List.{enumerate_from, filter}, Option.{option_map}}
use Rattle.std.proofs.lemmas.List.{drop_all}
use Rattle.oc_neutral.specs.declared.section.Section.{Section}
use Rattle.oc_macho_file.specs.{Addresses.{Numbered, is_blank}, Layout.{Raw, raw_part}}
use Rattle.oc_macho_write.specs.Parts.{part_in}
use Rattle.oc_macho_write.specs.declared.parts.Part.TheVariants as part
use Rattle.oc_plans.proofs.Turns.{filter_step, turn_if, whole}
use Rattle.oc_macho_write.proofs.parts.add_raws.Goals as goal

pub loop-k-preserved : goal.loop-k-preserved
loop-k-preserved c =
    let n = c.args.neutral.now in
    let k = c.loop-k.k in
    let s : Section = c.section.result.now in
    turn_if (part_in n) c.loop-k.parts.items _ (part.Raw k) (Raw k s) _ (not (is_blank (k, s))) _ _ _ c.in_ok-give_part.ensures (ap (option_map (Raw k)) c.section.ensures) (ap not c.is_blank-stored.ensures)
    (filter_step raw_part (λ (x : Numbered). not (is_blank x)) n.sections k s c.section.ensures) c.loop-k.invariant

pub returns : goal.returns
returns c =
    let n = c.args.neutral.now in
    let done : length n.sections ≤ c.loop-k.k = omega (arith, c.loop-k-test.false, c.section_count-k-end.ensures) in
    whole (part_in n) c.loop-k.parts.items _ _ (ap (λ xs. map raw_part (filter (λ (x : Numbered). not (is_blank x)) (enumerate_from c.loop-k.k xs))) (drop_all c.loop-k.k n.sections done)) c.loop-k.invariant
