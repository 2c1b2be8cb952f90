-- A field begins near one of the places, or near none.
use Rattle.std.proofs.Common.{ℕ, ◌+◌, take, inl, inr, sym, ◌∙◌, ap, subst}
use Rattle.std.specs.{Prelude.{nat_eq}, List.{list_any}}
use Rattle.std.proofs.lemmas.{List.{take_all}, Bool.{or_cases}}
use Rattle.oc_omf_judge.specs.Starts.{IsNear}
use Rattle.oc_omf_judge.proofs.StartLemmas.{any_more, equal_places, place_there}
use Rattle.oc_omf_judge.proofs.starts.Starts.are_met.Goals as goal

pub loop-place-preserved : goal.loop-place-preserved
loop-place-preserved c = λ p there near.
    let xs = c.args.places.now in
    let more = any_more (nat_eq p) xs c.loop-place.place-index c.from.result c.loop-place-test.true c.from.ensures in
    elim (or_cases (list_any (nat_eq p) (take c.loop-place.place-index xs)) (nat_eq p c.from.result) (sym more ∙ there)) [
      | inl before ↦ c.loop-place.invariant p before near
      | inr here ↦ c.is_near.ensures.free c.if-is_near.false (subst (λ (q : ℕ). IsNear c.args.self.now (c.args.base + q)) (equal_places p c.from.result here) near)
    ]

pub returns-then-is_near-clause-met : goal.returns-then-is_near-clause-met
returns-then-is_near-clause-met c = λ _. (
  c.from.result,
  place_there c.args.places.now c.loop-place.place-index c.from.result c.loop-place-test.true c.from.ensures,
  c.is_near.ensures.met c.if-is_near.true,
)

pub returns-clause-free : goal.returns-clause-free
returns-clause-free c = λ _ met. c.loop-place.invariant met.0 (ap (list_any (nat_eq met.0)) (take_all c.loop-place.place-index c.args.places.now c.loop-place-test.false) ∙ met.1) met.2
