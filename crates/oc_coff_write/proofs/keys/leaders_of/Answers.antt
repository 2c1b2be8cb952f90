use Rattle.std.proofs.Common.{◌≡◌, ◌+◌, ◌<◌, ◌≤◌, length, ◌∙◌, ap, sym, subst, arith}
use Rattle.std.specs.Option.{option_or}
use Rattle.std.proofs.lemmas.List.{take_all}
use Rattle.oc_coff_write.specs.Keys.{first_made, led_by}
use Rattle.oc_coff_write.proofs.KeyLemmas.{first_more}
use Rattle.oc_coff_write.proofs.keys.leaders_of.Goals as goal

pub loop-k-preserved : goal.loop-k-preserved
loop-k-preserved c =
    let n = c.args.neutral.now in
    let k = c.loop-k.k in
    let s = c.symbol.result.now in (
      c.note_leader.ensures.counted ∙ c.loop-k.invariant.0,
      λ g l.
          let at : k ≡ 0 + k = omega arith in
          c.note_leader.ensures.noted g (subst (λ m. g < m) (sym c.loop-k.invariant.0) l)
          ∙ ap (λ o. option_or o (led_by n g s)) (c.loop-k.invariant.1 g l)
          ∙ sym (first_more (λ position x. led_by n g x) 0 n.symbols k k s c.symbol.ensures at),
    )

pub returns : goal.returns
returns c =
    let n = c.args.neutral.now in
    let done : length n.symbols ≤ c.loop-k.k = omega (arith, c.loop-k-test.false, c.symbol_count-k-end.ensures) in
    record {
      counted = c.loop-k.invariant.0;
      each = λ g l. c.loop-k.invariant.1 g l ∙ ap (first_made (λ position s. led_by n g s) 0) (take_all c.loop-k.k n.symbols done);
    }
