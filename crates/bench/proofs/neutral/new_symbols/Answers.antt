use Rattle.std.proofs.Common.{◌≡◌, ◌∙◌, ◌+◌, IsOk, [], ◌∷◌, ap, arith, length, length-append, refl, subst, sym}
use Rattle.oc_neutral.specs.Building.{Draft, symbol_added}
use Rattle.oc_neutral.proofs.MoreSymbols.{symboled}
use Rattle.bench.proofs.Numbered.{AreNumbered, numbered_added, numbered_more, same_draft}
use Rattle.bench.proofs.neutral.new_symbols.Goals as goal

pub add_new_symbol-requires-clause-new : goal.add_new_symbol-requires-clause-new
add_new_symbol-requires-clause-new c =
    let is = c.undefined.ensures ∙ c.in_ok-name.ensures ∙ c.as_slice.ensures ∙ c.to_le_bytes.ensures in
    subst (λ r. IsOk r) (sym (numbered_added c.loop-k.builder c.loop-k.k c.undefined.result (omega arith) c.loop-k.invariant.numbered is)) refl

pub loop-k-preserved : goal.loop-k-preserved
loop-k-preserved c =
    let d = c.loop-k.builder in
    let y = c.undefined.result in
    let is = c.undefined.ensures ∙ c.in_ok-name.ensures ∙ c.as_slice.ensures ∙ c.to_le_bytes.ensures in
    let new = same_draft (symbol_added d y) (symboled d y) c.add_new_symbol.new.self (numbered_added d c.loop-k.k y (omega arith) c.loop-k.invariant.numbered is) c.in_ok-add_new_symbol.ensures.added in
    subst (λ (e : Draft). record {
      count : length e.object.symbols ≡ c.loop-k.k + 1;
      numbered : AreNumbered (c.loop-k.k + 1) e.object.symbols;
    }) new (record {
      count = length-append d.object.symbols (y ∷ []) ∙ ap (λ n. n + 1) c.loop-k.invariant.count;
      numbered = numbered_more c.loop-k.k d.object.symbols y c.loop-k.invariant.numbered is;
    })
