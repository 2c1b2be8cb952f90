-- A byte that is taken would have been met.
use Rattle.std.proofs.Common.{◌≡◌, inl, inr, false, sym, ◌∙◌, subst, arith}
use Rattle.std.proofs.lemmas.Bool.{cases_eq, true≢false}
use Rattle.oc_shelf.specs.Reading.Bitmaps.{has}
use Rattle.oc_shelf.proofs.reading.bitmap.any_taken.Goals as goal

pub loop-at-init : goal.loop-at-init
loop-at-init c = λ q from below. absurd (omega (arith, from, below))

pub loop-at-preserved : goal.loop-at-preserved
loop-at-preserved c = λ q from below. elim (cases_eq q c.loop-at.at) [
  | inl same ↦ subst (λ p. has c.args.words.now p ≡ false) (sym same) (sym c.has.ensures ∙ c.if-has.false)
  | inr other ↦ c.loop-at.invariant q from (omega (arith, below, other))
]

pub returns-clause-free : goal.returns-clause-free
returns-clause-free c = λ same met.
    let below = met.below in
    let past = c.loop-at-test.false in
    true≢false (sym met.there ∙ c.loop-at.invariant met.at met.from (omega (arith, below, past)))
