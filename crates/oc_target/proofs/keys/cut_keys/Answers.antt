use Rattle.std.proofs.Common.{◌≡◌, ◌≤◌, ◌++◌, [], ◌∷◌, false, length, map, get_or, ◌∙◌, ap, sym, arith}
use Rattle.std.proofs.lemmas.List.{take_all}
use Rattle.oc_neutral.specs.{declared.group.Group.{Group}, KindRules.{has_nul}}
use Rattle.oc_target.proofs.Cut.{cut_next, cut_at}
use Rattle.oc_target.proofs.keys.cut_keys.Goals as goal

pub loop-k-preserved : goal.loop-k-preserved
loop-k-preserved c =
    let n = c.args.neutral.now in
    let more = cut_next n.groups c.loop-k.k c.group.result.now c.group.ensures in
    let told : c.has_nul.result ≡ has_nul c.group.result.now.key = c.has_nul.ensures ∙ ap has_nul c.as_slice.ensures in
    c.in_ok-push.ensures.items ∙ ap (λ b. c.loop-k.cut.items ++ b ∷ []) told ∙ ap (λ xs. xs ++ has_nul c.group.result.now.key ∷ []) c.loop-k.invariant ∙ sym more

pub returns : goal.returns
returns c = λ g.
    let n = c.args.neutral.now in
    let done : length n.groups ≤ c.loop-k.k = omega (arith, c.loop-k-test.false, c.group_count-k-end.ensures) in
    ap (λ xs. get_or xs g false) (c.loop-k.invariant ∙ ap (map (λ (x : Group). has_nul x.key)) (take_all c.loop-k.k n.groups done)) ∙ cut_at n.groups g
