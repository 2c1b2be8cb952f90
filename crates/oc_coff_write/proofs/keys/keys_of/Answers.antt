use Rattle.std.proofs.Common.{◌≡◌, ◌+◌, ◌<◌, ◌≤◌, cond, false, Some, None, length, ◌∙◌, ap, sym, subst, arith}
use Rattle.std.specs.{Option.{option_or, option_map_or}, Prelude.{nat_eq, take}}
use Rattle.std.proofs.lemmas.List.{take_all}
use Rattle.oc_coff_write.specs.Keys.{first_made, keyed_at}
use Rattle.oc_coff_write.proofs.KeyLemmas.{first_more}
use Rattle.oc_coff_write.proofs.keys.keys_of.Goals as goal

pub loop-k-preserved : goal.loop-k-preserved
loop-k-preserved c =
    let n = c.args.neutral.now in
    let k = c.loop-k.k in
    let s = c.symbol.result.now in (
      c.note.ensures.counted ∙ c.loop-k.invariant.0,
      λ j l.
          let at : k ≡ 0 + k = omega arith in
          let test = c.key_place.ensures.test j in
          c.note.ensures.noted j (subst (λ m. j < m) (sym c.loop-k.invariant.0) l)
          ∙ ap (λ o. option_or o (cond (option_map_or (nat_eq j) c.key_place.result false) (Some k) None)) (c.loop-k.invariant.1 j l)
          ∙ ap (λ b. option_or (first_made (keyed_at n j) 0 (take k n.symbols)) (cond b (Some k) None)) test
          ∙ sym (first_more (keyed_at n j) 0 n.symbols k k s c.symbol.ensures at),
    )

pub returns : goal.returns
returns c =
    let n = c.args.neutral.now in
    let done : length n.symbols ≤ c.loop-k.k = omega (arith, c.loop-k-test.false, c.symbol_count-k-end.ensures) in
    record {
      counted = c.loop-k.invariant.0;
      each = λ j l. c.loop-k.invariant.1 j l ∙ ap (first_made (keyed_at n j) 0) (take_all c.loop-k.k n.symbols done);
    }
