use Rattle.std.proofs.Common.{◌≤◌, length, ap, arith}
use Rattle.std.proofs.lemmas.List.{drop_all}
use Rattle.oc_target.specs.Sorting.{nonlocal_names}
use Rattle.oc_target.proofs.Giving.{more_given, all_given, nonlocal_step}
use Rattle.oc_target.proofs.signatures.nonlocal_names.Goals as goal

pub loop-k-preserved : goal.loop-k-preserved
loop-k-preserved c =
    let n = c.args.neutral.now in
    more_given _ _ _ _ _ _ c.in_ok-add_nonlocal.ensures (nonlocal_step n.symbols c.loop-k.k c.symbol.result.now c.symbol.ensures) c.loop-k.invariant

pub returns : goal.returns
returns c =
    let n = c.args.neutral.now in
    let done : length n.symbols ≤ c.loop-k.k = omega (arith, c.loop-k-test.false, c.symbol_count-k-end.ensures) in
    all_given _ _ _ (ap nonlocal_names (drop_all c.loop-k.k n.symbols done)) c.loop-k.invariant
