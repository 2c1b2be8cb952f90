-- The span is one more, and none ends behind the greatest end.
use Rattle.std.proofs.Common.{◌≡◌, ℕ, cond, eqb, List, Some, subst, rules, ◌∙◌, ap, arith}
use Rattle.std.specs.Ordering.{is_eq, nat_cmp}
use Rattle.std.proofs.lemmas.Bool.Decides.{nat_tests}
use Rattle.oc_shelf.specs.Reading.Spans.{end_at, AreSpans, EndBy}
use Rattle.oc_shelf.proofs.ReadingLaws.SpanLemmas.{are_more, end_more}
use Rattle.oc_shelf.proofs.reading.spans.Spans.take.Goals as goal

same_test : (a b : ℕ) → is_eq (nat_cmp a b) ≡ eqb b a
same_test a b = grind (arith, nat_tests)

taken : (begin end : ℕ) (inside old new : List (ℕ × ℕ)) → ((q : ℕ) → end_at new q ≡ cond (is_eq (nat_cmp begin q)) (Some end) (end_at inside q)) → inside ≡ old
    → (q : ℕ) → end_at new q ≡ cond (eqb q begin) (Some end) (end_at old q)
taken begin end inside old new updates is q =
    updates q ∙ ap (λ b. cond b (Some end) (end_at inside q)) (same_test begin q) ∙ ap (λ (spans : List (ℕ × ℕ)). cond (eqb q begin) (Some end) (end_at spans q)) is

pub invariant_of-self-2 : goal.invariant_of-self-2
invariant_of-self-2 c =
    let next = taken c.args.begin c.args.end c.self.inside.ends.entries c.args.self.now c.insert.new.self.entries c.in_ok-insert.ensures.updates.0 c.self.view_is in (
      are_more c.args.begin c.args.end c.args.self.now c.insert.new.self.entries (subst (λ (spans : List (ℕ × ℕ)). AreSpans spans) c.self.view_is c.self.invariant.0) c.requires.some c.requires.free next,
      end_more c.args.begin c.args.end c.self.inside.top _ c.args.self.now c.insert.new.self.entries (subst (λ (spans : List (ℕ × ℕ)). EndBy c.self.inside.top spans) c.self.view_is c.self.invariant.1) (search rules) (search rules) next,
    )

pub returns-clause-ok : goal.returns-clause-ok
returns-clause-ok c = taken c.args.begin c.args.end c.self.inside.ends.entries c.args.self.now c.insert.new.self.entries c.in_ok-insert.ensures.updates.0 c.self.view_is
