-- One more word, and all of them.
use Rattle.std.proofs.Common.{ℕ, ◌++◌, [], ◌∷◌, List, length, eqb, rules, sym, ap, ◌∙◌, lit<, arith}
use Rattle.std.proofs.lemmas.{List.{length-map, map-append}, Iterator.Consumers.{YieldsList-turn, YieldsList-end}, Iterator.Splits.{YieldsList-from_str_split}}
use denote.Ref.{Bor}
use Rattle.oc_embed.proofs.WordLaws.{few_pieces}
use Rattle.oc_embed.proofs.words.pieces.Goals as goal

pub push-requires : goal.push-requires
push-requires c =
    let all = YieldsList-from_str_split {s = c.into_iter-word-iterator.result} 0 c.args.text.now (lit< tt) (search rules) (search rules) (search rules) in
    let t = YieldsList-turn all c.loop-word.yielded _ c.loop-word.yielded_by _ _ c.in-Some.word c.in-Some.is c.next.ensures.steps in
    let now : Bor (List ℕ) → List ℕ = λ x. x.now in
    omega (arith, t.0, ap length c.loop-word.invariant, length-map c.loop-word.yielded now, few_pieces (λ b. eqb b 0) c.args.text.now, c.requires)

pub loop-word-preserved : goal.loop-word-preserved
loop-word-preserved c =
    c.in_ok-push.ensures.ok ∙ ap (λ ws. ws ++ c.in-Some.word.now ∷ []) c.loop-word.invariant ∙ sym (map-append (λ (x : Bor (List ℕ)). x.now) c.loop-word.yielded (c.in-Some.word ∷ []))

pub returns : goal.returns
returns c =
    let all = YieldsList-from_str_split {s = c.into_iter-word-iterator.result} 0 c.args.text.now (lit< tt) (search rules) (search rules) (search rules) in
    let t = YieldsList-end all c.loop-word.yielded _ c.loop-word.yielded_by _ _ c.in-None.is c.next.ensures.steps in
    c.loop-word.invariant ∙ t.0
