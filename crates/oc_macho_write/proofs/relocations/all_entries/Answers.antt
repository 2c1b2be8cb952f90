-- Each turn adds the entries of the next section.
use Rattle.std.proofs.Common.{ℕ, ◌+◌, ◌<◌, List, [], ◌∷◌, ◌++◌, length, map, drop, ◌∙◌, ap, arith, Vec, Global}
use Rattle.std.specs.List.{enumerate_from}
use Rattle.oc_neutral.specs.{declared.section.Section.{Section}, Objects.{Object}}
use Rattle.oc_neutral.proofs.Positions.{there_at}
use Rattle.oc_target.proofs.Steps.{more_done}
use Rattle.oc_macho.specs.declared.relocation_info.RelocationInfo.{RelocationInfo}
use Rattle.oc_macho_file.specs.Layout.{relocs_of}
use Rattle.oc_macho_write.specs.{Relocations.{all_entries}, Words.{items_of}}
use Rattle.oc_plans.proofs.Turns.{map_append, map_step}
use Rattle.oc_macho_write.proofs.relocations.all_entries.Goals as goal

pub loop-k-preserved : goal.loop-k-preserved
loop-k-preserved c =
    let n : Object = c.args.neutral.now in
    let w = c.args.context.word in
    let k = c.loop-k.k in
    let low : k < length n.sections = omega (arith, c.loop-k-test.true, c.section_count-k-end.ensures) in
    let s = there_at n.sections k low in
    let f : ℕ × Section → List RelocationInfo = λ (x : ℕ × Section). relocs_of w n x.0 in
    let done : List (List RelocationInfo) = items_of c.loop-k.entries.items in
    let left : List (List RelocationInfo) = map f (enumerate_from (k + 1) (drop (k + 1) n.sections)) in
    ap (λ (xs : List (List RelocationInfo)). xs ++ left) (
    ap items_of c.in_ok-push.ensures.items
    ∙ map_append (λ (v : Vec RelocationInfo Global). v.items) c.loop-k.entries.items (c.in_ok-entries_of.field-0 ∷ [])
    ∙ ap (λ (r : List RelocationInfo). done ++ r ∷ []) c.in_ok-entries_of.ensures)
    ∙ more_done done (map f (enumerate_from k (drop k n.sections))) (all_entries w n) left (f (k, s.0)) c.loop-k.invariant (map_step f n.sections k s.0 s.1)
