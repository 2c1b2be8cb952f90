use Rattle.std.proofs.Common.{◌≡◌, ℕ, ◌*◌, ◌++◌, ◌∷◌, [], List, map, sym, ◌∙◌, ap, arith}
use Rattle.std.specs.List.{range_with_len}
use Rattle.std.proofs.lemmas.List.FromFn.{map-range_with_len_more}
use Rattle.oc_made.specs.Functions.{code_byte, code_of}
use Rattle.oc_made.proofs.code.code_of.Goals as goal

pub loop-k-preserved : goal.loop-k-preserved
loop-k-preserved c =
    c.in_ok-push.ensures.items
    ∙ ap (λ (xs : List ℕ). xs ++ code_byte c.loop-k.k ∷ []) c.loop-k.invariant
    ∙ sym (map-range_with_len_more code_byte 0 c.loop-k.k c.loop-k.k (omega arith))

pub returns : goal.returns
unfolding code_of
returns c = let all : c.loop-k.k ≡ 16 * c.args.count = omega arith in c.loop-k.invariant ∙ ap (λ k. map code_byte (range_with_len 0 k)) all
