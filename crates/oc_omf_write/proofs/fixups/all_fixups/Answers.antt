-- Each turn adds the fixups of the next section.
use Rattle.std.proofs.Common.{ℕ, ◌+◌, List, [], ◌∷◌, ◌++◌, map, drop, ◌∙◌, ap, arith, Vec, Global}
use Rattle.std.specs.List.{enumerate_from}
use Rattle.oc_neutral.specs.{declared.section.Section.{Section}, Objects.{Object}}
use Rattle.oc_neutral.proofs.Positions.{there_at}
use Rattle.oc_target.proofs.Steps.{more_done}
use Rattle.oc_omf_write.specs.{declared.fixups.Fixup.{Fixup}, Written.{fixups_in, fixups_of}}
use Rattle.oc_plans.proofs.Turns.{map_append, map_step}
use Rattle.oc_omf_write.proofs.fixups.all_fixups.Goals as goal

pub loop-k-preserved : goal.loop-k-preserved
loop-k-preserved c =
    let n : Object = c.args.neutral.now in
    let k = c.loop-k.k in
    let s = there_at n.sections k (omega (arith, c.loop-k-test.true, c.section_count-k-end.ensures)) in
    let f : ℕ × Section → List Fixup = λ (x : ℕ × Section). fixups_of c.args.numbers.now n x.0 in
    let items : Vec Fixup Global → List Fixup = λ (v : Vec Fixup Global). v.items in
    let done : List (List Fixup) = map items c.loop-k.fixups.items in
    let left : List (List Fixup) = map f (enumerate_from (k + 1) (drop (k + 1) n.sections)) in
    ap (λ (xs : List (List Fixup)). xs ++ left) (
    ap (map items) c.in_ok-push.ensures.items
    ∙ map_append items c.loop-k.fixups.items (c.in_ok-fixups_of.field-0 ∷ [])
    ∙ ap (λ (r : List Fixup). done ++ r ∷ []) c.in_ok-fixups_of.ensures)
    ∙ more_done done (map f (enumerate_from k (drop k n.sections))) (fixups_in c.args.numbers.now n) left (f (k, s.0)) c.loop-k.invariant (map_step f n.sections k s.0 s.1)
