-- The spans before the last one end where it begins, or before.
use Rattle.std.proofs.Common.{◌≡◌, ◌≤◌, inl, inr, refl, sym, ◌∙◌, ap, subst, arith}
use Rattle.std.specs.{Prelude.{IsSome}, BTreeMap.{get}, Ordering.{nat_cmp}}
use Rattle.std.proofs.lemmas.{Bool.{cases_eq}, Bool.Decides.{nat_tests}, Option.{same_Some}}
use Rattle.oc_shelf.proofs.reading.spans.meets_before.Goals as goal

pub returns-in-Some-clause-free : goal.returns-in-Some-clause-free
returns-in-Some-clause-free c past q e there le =
    let stop : c.in-Some.stop ≤ c.args.at = grind (arith, nat_tests) in
    let last : q ≤ c.in-Some._start = c.in-Some.ensures.greatest q le (subst IsSome (sym there) refl) in
    elim (cases_eq q c.in-Some._start) [
      | inl same ↦
          let own : e ≡ c.in-Some.stop = same_Some e c.in-Some.stop (sym there ∙ ap (get nat_cmp c.args.ends.now) same ∙ c.in-Some.ensures.held) in
          omega (arith, own, stop)
      | inr other ↦
          let near = c.requires.apart q e c.in-Some._start c.in-Some.stop there c.in-Some.ensures.held (omega (arith, last, other)) in
          let begins = c.in-Some.ensures.below in
          omega (arith, near, begins)
    ]
