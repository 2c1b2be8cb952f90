use Rattle.std.proofs.Common.{◌++◌, ◌∷◌, [], List, map, sym, ◌∙◌, ap, arith}
use Rattle.std.specs.List.{range_with_len}
use Rattle.std.proofs.lemmas.List.FromFn.{map-range_with_len_more}
use Rattle.oc_neutral.specs.declared.symbol.Symbol.{Symbol}
use Rattle.oc_made.specs.Functions.{function_symbol}
use Rattle.oc_made.proofs.symbols.function_symbols.Goals as goal

pub loop-i-preserved : goal.loop-i-preserved
loop-i-preserved c =
    c.in_ok-push.ensures.items
    ∙ ap (λ (xs : List Symbol). xs ++ c.in_ok-function_symbol.field-0 ∷ []) c.loop-i.invariant
    ∙ ap (λ (s : Symbol). map function_symbol (range_with_len 0 c.loop-i.i) ++ s ∷ []) c.in_ok-function_symbol.ensures
    ∙ sym (map-range_with_len_more function_symbol 0 c.loop-i.i c.loop-i.i (omega arith))
