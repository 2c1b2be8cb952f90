use Rattle.std.proofs.Common.{◌≡◌, ◌≤◌, ◌∙◌, List, Some, length, slice_get, subst, sym, ap, arith}
use Rattle.oc_neutral.specs.{declared.symbol.Symbol.{Symbol}, Dressing.{realigned}, Invariants.{IsAlign}, Objects.{Object}}
use Rattle.oc_target.specs.Fitted.{fitted_binding, fitted_symbol}
use Rattle.oc_neutral.proofs.Partly.{length-partly, partly_all}
use Rattle.oc_target.proofs.Dressing.{aligned_at, common_aligned, common_more, map_any, other_binding, other_more, upto}
use Rattle.oc_target.proofs.dress.align_commons.Goals.{in-Common, in_default}
use Rattle.oc_target.proofs.dress.align_commons.Goals as goal

pub symbol-requires : goal.symbol-requires
symbol-requires c =
    let n : Object = c.args.neutral.now in
    let k = c.loop-k.k in
    let long = ap (λ (m : Object). length m.symbols) c.loop-k.invariant ∙ length-partly (aligned_at c.args.target n) 0 k n.symbols in
    omega (arith, long, c.loop-k-test.true, c.symbol_count-k-end.ensures)

pub set_common_align-requires-clause-align : goal.set_common_align-requires-clause-align
set_common_align-requires-clause-align c =
    let n : Object = c.args.neutral.now in
    let target = c.args.target in
    let k = c.loop-k.k in
    let here : slice_get (upto target n k).symbols k ≡ Some c.symbol.result.now = ap (λ (m : Object). slice_get m.symbols k) (sym c.loop-k.invariant) ∙ c.symbol.ensures in
    subst (λ a. IsAlign a) (sym c.common_align.ensures) (common_aligned target n c.is_object.ensures k c.symbol.result.now here c.in-Common.size c.in-Common.align c.in-Common.is)

pub loop-k-preserved : goal.loop-k-preserved
loop-k-preserved c =
    let n : Object = c.args.neutral.now in
    let target = c.args.target in
    let k = c.loop-k.k in
    let s = c.symbol.result.now in
    let inv = c.loop-k.invariant in
    let here : slice_get (upto target n k).symbols k ≡ Some s = ap (λ (m : Object). slice_get m.symbols k) (sym inv) ∙ c.symbol.ensures in
    elim c.match-symbol.branch [
      | in-Common w ↦ rw w.neutral-is
          (w.set_common_align.ensures ∙ ap (λ (m : Object). realigned m k w.common_align.result) inv
          ∙ common_more target n k s here w.in-Common.size w.in-Common.align w.in-Common.is w.common_align.result w.common_align.ensures)
      | in_default w ↦
          let same : fitted_binding target s.binding ≡ s.binding = other_binding target s.binding w.in_default.not-Common in
          rw w.neutral-is (inv ∙ other_more target n k s here same)
    ]

pub returns : goal.returns
returns c =
    let n : Object = c.args.neutral.now in
    let target = c.args.target in
    let k = c.loop-k.k in
    let past : length n.symbols ≤ k = omega (arith, c.loop-k-test.false, c.symbol_count-k-end.ensures) in
    c.loop-k.invariant
    ∙ ap (λ (xs : List Symbol). with_symbols n xs) (partly_all (aligned_at target n) 0 k n.symbols past ∙ map_any (fitted_symbol target) 0 n.symbols)
  where
    with_symbols : Object → List Symbol → Object
    with_symbols n symbols = record { format = n.format; groups = n.groups; sections = n.sections; symbols = symbols; relocs = n.relocs }
