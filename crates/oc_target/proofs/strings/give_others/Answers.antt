use Rattle.std.proofs.Common.{◌≤◌, ◌&&◌, Bool, length, ap, arith}
use Rattle.std.specs.Prelude.{not}
use Rattle.std.proofs.lemmas.List.{drop_all}
use Rattle.oc_linking.specs.Parts.{is_local}
use Rattle.oc_neutral.specs.{declared.symbol.Symbol.{Symbol}, KeySymbols.{is_key}}
use Rattle.oc_target.proofs.Giving.{more_given, all_given, long_names, long_step}
use Rattle.oc_target.proofs.strings.give_others.Goals as goal

pub loop-k-preserved : goal.loop-k-preserved
loop-k-preserved c =
    let n = c.args.neutral.now in
    let s = c.symbol-symbol.result.now in
    let test : Symbol → Bool = λ (s : Symbol). not (is_local s.binding) && not (is_key n s) in
    more_given _ _ _ _ _ _ c.in_ok-give_wanted.ensures (long_step test n.symbols c.loop-k.k s c.as_slice.result.now _ c.symbol-symbol.ensures c.as_slice.ensures c.is_unkeyed-wanted.ensures) c.loop-k.invariant

pub returns : goal.returns
returns c =
    let n = c.args.neutral.now in
    let test : Symbol → Bool = λ (s : Symbol). not (is_local s.binding) && not (is_key n s) in
    let done : length n.symbols ≤ c.loop-k.k = omega (arith, c.loop-k-test.false, c.symbol_count-k-end.ensures) in
    all_given _ _ _ (ap (long_names test) (drop_all c.loop-k.k n.symbols done)) c.loop-k.invariant
