use Rattle.std.proofs.Common.{◌≡◌, ℕ, suc, ◌≤◌, ◌/◌, List, drop, length, ap, ◌∙◌, arith}
use Rattle.std.proofs.lemmas.List.{length-drop, take_rest}
use Rattle.oc_base.specs.Numbers.{number_at}
use Rattle.oc_strings.specs.Repeats.{followed, number_after_words}
use Rattle.oc_strings.proofs.repeats.number_of.Goals as goal

-- a word less is left where one was taken
word_less : (n : ℕ) (rest : List ℕ) → 8 ≤ length rest
    → number_after_words (length (drop 8 rest) / 8) (followed n (number_at rest 0 8)) (drop 8 rest) ≡ number_after_words (length rest / 8) n rest
word_less n rest long =
    let less : suc (length (drop 8 rest) / 8) ≡ length rest / 8 = omega (arith, length-drop 8 rest) in
    ap (λ k. number_after_words k n rest) less

pub loop-rest-preserved : goal.loop-rest-preserved
loop-rest-preserved c =
    let rest = c.loop-rest.rest.now in
    rw (take_rest rest 8, c.followed-number.ensures, c.u64_in.ensures) (word_less c.loop-rest.number rest (omega (arith, c.loop-rest-test.true)) ∙ c.loop-rest.invariant)
