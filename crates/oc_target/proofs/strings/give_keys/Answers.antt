use Rattle.std.proofs.Common.{◌≤◌, ◌<◌, length, arith}
use Rattle.oc_target.proofs.Giving.{more_given, all_given, keys_step, keys_none}
use Rattle.oc_target.proofs.strings.give_keys.Goals as goal

pub loop-k-preserved : goal.loop-k-preserved
loop-k-preserved c =
    let n = c.args.neutral.now in
    let k = c.loop-k.k in
    let low : k < length n.sections = omega (arith, c.loop-k-test.true, c.section_count-k-end.ensures) in
    more_given _ _ _ _ _ _ c.in_ok-give_key.ensures (keys_step n k low) c.loop-k.invariant

pub returns : goal.returns
returns c =
    let n = c.args.neutral.now in
    let k = c.loop-k.k in
    let past : length n.sections ≤ k = omega (arith, c.loop-k-test.false, c.section_count-k-end.ensures) in
    all_given _ _ _ (keys_none n k past) c.loop-k.invariant
