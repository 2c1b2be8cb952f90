use Rattle.std.proofs.Common.{◌+◌, ◌∙◌, ap, sym, ◌∷◌, arith}
use Rattle.oc_target.proofs.{Steps.{more_done}, Naming.{wanted_from, wanted_step, has_section}}
use Rattle.oc_target.proofs.names.wanted_names.Goals as goal

pub loop-k-preserved : goal.loop-k-preserved
loop-k-preserved c =
    let n = c.args.neutral.now in
    let there = has_section n c.loop-k.k (omega (arith, c.loop-k-test.true, c.section_count-k-end.ensures)) in
    let step = wanted_step c.args.target n c.loop-k.k there.0 there.1 ∙ ap (λ name. name ∷ wanted_from c.args.target n (c.loop-k.k + 1)) (sym (c.wanted_at.ensures there.0 there.1)) in
    let more = more_done c.loop-k.names.items _ _ (wanted_from c.args.target n (c.loop-k.k + 1)) c.wanted_at.result.now c.loop-k.invariant step in
    rw (c.in_ok-push.ensures.items, c.in_ok-from_slice.ensures) more
