use Rattle.std.proofs.Common.{◌<◌, ◌≤◌, ◌&&◌, length, ◌∙◌, ap, sym, subst, arith, Bool, false, inl, inr}
use Rattle.std.specs.List.{list_any}
use Rattle.std.proofs.lemmas.{Bool.{cases_lt}, List.{take_all, get_or_past}}
use Rattle.oc_neutral.specs.{declared.symbol.Symbol.{Symbol}, KeySymbols.{lies_in, is_key_name}}
use Rattle.oc_target.proofs.{Keyed.{past_keyed}, Steps.{any_more}}
use Rattle.oc_target.proofs.keys.keyed_groups.Goals as goal

pub loop-k-preserved : goal.loop-k-preserved
loop-k-preserved c =
    let n = c.args.neutral.now in (
      c.mark.ensures.counted ∙ c.loop-k.invariant.0,
      λ g l.
          let p : Symbol → Bool = λ (s : Symbol). lies_in n g s && is_key_name n s.name g in
          let marked = c.mark.ensures.marked g (subst (λ m. g < m) (sym c.loop-k.invariant.0) l) in
          let before = c.loop-k.invariant.1 g l in
          let next = c.keyed_group.ensures g in
          let more = any_more p n.symbols c.loop-k.k c.symbol.result.now c.symbol.ensures in
          cc (marked, before, next, more),
    )

pub returns : goal.returns
returns c = λ g.
    let n = c.args.neutral.now in
    let p : Symbol → Bool = λ (s : Symbol). lies_in n g s && is_key_name n s.name g in
    let done : length n.symbols ≤ c.loop-k.k = omega (arith, c.loop-k-test.false, c.symbol_count-k-end.ensures) in
    elim (cases_lt g (length n.groups)) [
      | inl l ↦ c.loop-k.invariant.1 g l ∙ ap (list_any p) (take_all c.loop-k.k n.symbols done)
      | inr past ↦ get_or_past c.loop-k.keyed.items g false (subst (λ m. m ≤ g) (sym c.loop-k.invariant.0) past) ∙ sym (past_keyed n g past n.symbols)
    ]
