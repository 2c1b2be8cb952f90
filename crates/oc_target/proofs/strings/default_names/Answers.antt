use Rattle.std.proofs.Common.{◌≤◌, length, ap, arith}
use Rattle.std.specs.List.{flat_map}
use Rattle.std.proofs.lemmas.List.{drop_all}
use Rattle.oc_neutral.specs.{declared.symbol.Symbol.{Symbol}, Coff.Strings.{defaults_of}}
use Rattle.oc_target.proofs.Giving.{more_given, all_given, flat_step}
use Rattle.oc_target.proofs.strings.default_names.Goals as goal

pub loop-k-preserved : goal.loop-k-preserved
loop-k-preserved c =
    let n = c.args.neutral.now in
    let s = c.symbol.result.now in
    more_given c.loop-k.names.items _ _ _ (defaults_of s.name s.binding) _ c.in_ok-add_default.ensures
    (flat_step (λ (s : Symbol). defaults_of s.name s.binding) n.symbols c.loop-k.k s c.symbol.ensures) c.loop-k.invariant

pub returns : goal.returns
returns c =
    let n = c.args.neutral.now in
    let done : length n.symbols ≤ c.loop-k.k = omega (arith, c.loop-k-test.false, c.symbol_count-k-end.ensures) in
    all_given c.loop-k.names.items _ _ (ap (flat_map (λ (s : Symbol). defaults_of s.name s.binding)) (drop_all c.loop-k.k n.symbols done)) c.loop-k.invariant
