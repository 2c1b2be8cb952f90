-- One more line, and all of them.
use Rattle.std.proofs.Common.{ℕ, ◌++◌, [], ◌∷◌, List, length, map, eqb, rules, sym, ap, ◌∙◌, lit<, arith}
use Rattle.std.specs.List.{filter, slice_split}
use Rattle.std.proofs.lemmas.{Iterator.Consumers.{YieldsList-turn, YieldsList-end}, Iterator.Splits.{YieldsList-from_str_split}}
use denote.Ref.{Bor}
use Rattle.oc_batch.specs.Lists.{is_filled, jobs_in, words_in}
use Rattle.oc_batch.proofs.ListLaws.{map_twice, pieces_more, short_piece, short_pieces}
use Rattle.oc_batch.proofs.list.jobs_of.Goals as goal

pub words_of-requires : goal.words_of-requires
words_of-requires c =
    let all = YieldsList-from_str_split {s = c.into_iter-line-iterator.result} 10 c.args.text.now (lit< tt) (search rules) (search rules) (search rules) in
    let t = YieldsList-turn all c.loop-line.yielded _ c.loop-line.yielded_by _ _ c.in-Some.line c.in-Some.is c.next.ensures.steps in
    omega (arith, c.requires, short_piece (length c.args.text.now) (length c.loop-line.yielded) c.in-Some.line.now (slice_split (λ b. eqb b 10) c.args.text.now) (short_pieces (λ b. eqb b 10) c.args.text.now) t.0 t.1)

pub loop-line-preserved : goal.loop-line-preserved
loop-line-preserved c =
    c.in_ok-add_job.ensures ∙ ap (λ (w : List (List ℕ)). c.loop-line.jobs.items ++ filter is_filled (w ∷ [])) c.in_ok-words.ensures
    ∙ ap (λ (js : List (List (List ℕ))). js ++ filter is_filled (words_in c.in-Some.line.now ∷ [])) c.loop-line.invariant
    ∙ sym (pieces_more is_filled (λ (x : Bor (List ℕ)). words_in x.now) c.loop-line.yielded c.in-Some.line)

pub returns : goal.returns
unfolding jobs_in
returns c =
    let all = YieldsList-from_str_split {s = c.into_iter-line-iterator.result} 10 c.args.text.now (lit< tt) (search rules) (search rules) (search rules) in
    let t = YieldsList-end all c.loop-line.yielded _ c.loop-line.yielded_by _ _ c.in-None.is c.next.ensures.steps in
    c.loop-line.invariant ∙ ap (filter is_filled) (map_twice words_in (λ (x : Bor (List ℕ)). x.now) c.loop-line.yielded ∙ ap (map words_in) t.0)
