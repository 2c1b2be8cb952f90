-- One more piece, and all of them.
use Rattle.std.proofs.Common.{ℕ, ◌++◌, [], ◌∷◌, List, length, map, eqb, rules, sym, ap, ◌∙◌, lit<, arith}
use Rattle.std.specs.List.{filter}
use Rattle.std.proofs.lemmas.{List.{length-map}, Iterator.Consumers.{YieldsList-turn, YieldsList-end}, Iterator.Splits.{YieldsList-from_str_split}}
use denote.Ref.{Bor}
use Rattle.oc_batch.specs.Lists.{is_filled}
use Rattle.oc_batch.proofs.ListLaws.{few_pieces, filter_bound, pieces_more}
use Rattle.oc_batch.proofs.list.words_of.Goals as goal

pub add_word-requires : goal.add_word-requires
add_word-requires c =
    let all = YieldsList-from_str_split {s = c.into_iter-word-iterator.result} 32 c.args.line.now (lit< tt) (search rules) (search rules) (search rules) in
    let t = YieldsList-turn all c.loop-word.yielded _ c.loop-word.yielded_by _ _ c.in-Some.word c.in-Some.is c.next.ensures.steps in
    let now : Bor (List ℕ) → List ℕ = λ x. x.now in
    omega (arith, t.0, ap length c.loop-word.invariant, filter_bound is_filled (map now c.loop-word.yielded), length-map c.loop-word.yielded now, few_pieces (λ b. eqb b 32) c.args.line.now, c.requires)

pub loop-word-preserved : goal.loop-word-preserved
loop-word-preserved c =
    c.in_ok-add_word.ensures ∙ ap (λ ws. ws ++ filter is_filled (c.in-Some.word.now ∷ [])) c.loop-word.invariant
    ∙ sym (pieces_more is_filled (λ (x : Bor (List ℕ)). x.now) c.loop-word.yielded c.in-Some.word)

pub returns : goal.returns
returns c =
    let all = YieldsList-from_str_split {s = c.into_iter-word-iterator.result} 32 c.args.line.now (lit< tt) (search rules) (search rules) (search rules) in
    let t = YieldsList-end all c.loop-word.yielded _ c.loop-word.yielded_by _ _ c.in-None.is c.next.ensures.steps in
    c.loop-word.invariant ∙ ap (filter is_filled) t.0
