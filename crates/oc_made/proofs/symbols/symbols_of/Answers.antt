use Rattle.std.proofs.Common.{◌≡◌, ℕ, ◌+◌, ◌++◌, ◌∷◌, [], List, map, min, sym, ◌∙◌, ap, arith, append_assoc}
use Rattle.std.specs.List.{range_with_len}
use Rattle.std.proofs.lemmas.List.FromFn.{map-range_with_len_more}
use Rattle.oc_neutral.specs.declared.symbol.Symbol.{Symbol}
use Rattle.oc_made.specs.Functions.{function_symbol, outside_symbol, symbols_of}
use Rattle.oc_made.proofs.symbols.symbols_of.Goals as goal

-- one more symbol outside
one_more : (count k : ℕ) (inner : List Symbol) → (inner ++ map (outside_symbol count) (range_with_len 0 k)) ++ outside_symbol count k ∷ [] ≡ inner ++ map (outside_symbol count) (range_with_len 0 (k + 1))
one_more count k inner =
    let e = map-range_with_len_more (outside_symbol count) 0 k k (omega arith) in
    rw append_assoc (ap (λ (xs : List Symbol). inner ++ xs) (sym e))

pub loop-k-preserved : goal.loop-k-preserved
loop-k-preserved c =
    let inner : List Symbol = map function_symbol (range_with_len 0 c.args.count) in
    let so_far : List Symbol = map (outside_symbol c.args.count) (range_with_len 0 c.loop-k.k) in
    c.in_ok-push.ensures.items
    ∙ ap (λ (xs : List Symbol). xs ++ c.in_ok-outside_symbol.field-0 ∷ []) c.loop-k.invariant
    ∙ ap (λ (s : Symbol). (inner ++ so_far) ++ s ∷ []) c.in_ok-outside_symbol.ensures
    ∙ one_more c.args.count c.loop-k.k inner

pub returns : goal.returns
unfolding symbols_of
returns c =
    let all : c.loop-k.k ≡ min c.args.count 10 = omega (arith, c.min-outside.ensures) in
    c.loop-k.invariant ∙ ap (λ k. map function_symbol (range_with_len 0 c.args.count) ++ map (outside_symbol c.args.count) (range_with_len 0 k)) all
