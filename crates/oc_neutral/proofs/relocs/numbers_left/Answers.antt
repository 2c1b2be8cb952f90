use Rattle.std.proofs.Common.{◌≡◌, ◌∙◌, ◌<◌, ◌∷◌, ◌++◌, [], Bool, List, ℕ, ap, arith, cond, get_or, length, sym, take, take_all, true}
use Rattle.std.specs.Option.{option_map}
use Rattle.std.proofs.lemmas.List.{get_or_default}
use Rattle.oc_linking.specs.Keeping.{kept_of}
use Rattle.oc_neutral.specs.Numbered.{numbers_by}
use Rattle.oc_neutral.proofs.{KeptLists.{kept_more}, Numbers.{counted_numbers, number_is}}
use Rattle.oc_neutral.proofs.relocs.numbers_left.Goals as goal

pub loop-at-preserved : goal.loop-at-preserved
loop-at-preserved c =
    let of = option_map (λ v. v.items) c.args.of.now in
    let stay = c.args.stay.now in
    let at = c.loop-at.at in
    let ns : List ℕ = numbers_by of (length stay) in
    let lt : at < length stay = omega (arith, c.loop-at-test.true, c.requires.all) in
    let long = counted_numbers of (length stay) c.requires.counted in
    let low : at < length ns = omega (arith, lt, long) in
    let number = c.number_of.ensures ∙ number_is of (length stay) at low in
    c.in_ok-put_number.ensures
    ∙ ap (λ (b : Bool). cond b (c.loop-at.left.items ++ c.number_of.result ∷ []) c.loop-at.left.items) (get_or_default stay at _ true lt)
    ∙ ap (λ (xs : List ℕ). cond (get_or stay at true) (xs ++ c.number_of.result ∷ []) xs) c.loop-at.invariant
    ∙ ap (λ (n : ℕ). cond (get_or stay at true) (kept_of (take at stay) (take at ns) ++ n ∷ []) (kept_of (take at stay) (take at ns))) number
    ∙ sym (kept_more stay ns at 0 lt low)

pub returns : goal.returns
returns c =
    let of = option_map (λ v. v.items) c.args.of.now in
    let stay = c.args.stay.now in
    let ns : List ℕ = numbers_by of (length stay) in
    let long = counted_numbers of (length stay) c.requires.counted in
    let over : length stay ≡ c.loop-at.at = omega (arith, c.loop-at-test.false, c.loop-at.auto.at-end, c.requires.all) in
    c.loop-at.invariant
    ∙ ap (λ (xs : List Bool). kept_of xs (take c.loop-at.at ns)) (take_all c.loop-at.at stay (omega (arith, over)))
    ∙ ap (kept_of stay) (take_all c.loop-at.at ns (omega (arith, over, long)))
