use Rattle.std.proofs.Common.{◌<◌, ◌≤◌, length, ◌∙◌, ap, sym, subst, arith}
use Rattle.std.specs.List.{list_any}
use Rattle.std.proofs.lemmas.List.{take_all}
use Rattle.oc_neutral.specs.KeySymbols.{is_key_at}
use Rattle.oc_target.proofs.Steps.{any_more}
use Rattle.oc_target.proofs.keys.keyed_sections.Goals as goal

pub loop-k-preserved : goal.loop-k-preserved
loop-k-preserved c =
    let n = c.args.neutral.now in (
      c.mark.ensures.counted ∙ c.loop-k.invariant.0,
      λ k l.
          let marked = c.mark.ensures.marked k (subst (λ m. k < m) (sym c.loop-k.invariant.0) l) in
          let before = c.loop-k.invariant.1 k l in
          let next = c.key_place.ensures.test k in
          let more = any_more (is_key_at n k) n.symbols c.loop-k.k c.symbol.result.now c.symbol.ensures in
          cc (marked, before, next, more),
    )

pub returns : goal.returns
returns c = λ k l.
    let n = c.args.neutral.now in
    let done : length n.symbols ≤ c.loop-k.k = omega (arith, c.loop-k-test.false, c.symbol_count-k-end.ensures) in
    c.loop-k.invariant.1 k l ∙ ap (list_any (is_key_at n k)) (take_all c.loop-k.k n.symbols done)
