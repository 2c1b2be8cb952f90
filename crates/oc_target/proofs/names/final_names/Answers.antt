use Rattle.std.proofs.Common.{rules, ◌≡◌, ◌+◌, ◌++◌, ◌∙◌, ap, sym, [], ◌∷◌, arith}
use Rattle.std.proofs.lemmas.List.{length-append}
use Rattle.oc_neutral.specs.{HomeNames.{final_name, final_names}, Mach.Family.{numbered_name}}
use Rattle.oc_target.proofs.{Steps.{more_done}, Naming.{wanted_from, wanted_step, has_section}}
use Rattle.oc_target.proofs.names.final_names.Goals as goal

pub loop-k-preserved : goal.loop-k-preserved
loop-k-preserved c =
    let n = c.args.neutral.now in
    let done = c.loop-k.names.items in
    let there = has_section n c.loop-k.k (omega (arith, c.loop-k-test.true, c.section_count-k-end.ensures)) in
    let left = wanted_from c.args.target n (c.loop-k.k + 1) in
    let name = c.wanted_at.result.now in
    let next = final_name numbered_name done name in
    let step = ap (final_names numbered_name done) (wanted_step c.args.target n c.loop-k.k there.0 there.1 ∙ ap (λ name. name ∷ left) (sym (c.wanted_at.ensures there.0 there.1))) in
    let more = more_done done _ _ (final_names numbered_name (done ++ next ∷ []) left) next c.loop-k.invariant.1 step in
    let longer = length-append done (next ∷ []) ∙ ap (λ m. m + 1) c.loop-k.invariant.0 in
    let held : c.deref.result.now ≡ done = search rules in
    rw (c.in_ok-push.ensures.items, c.in_ok-name.ensures, held) (longer, more)
