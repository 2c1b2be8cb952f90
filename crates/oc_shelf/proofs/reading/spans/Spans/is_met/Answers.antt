-- Behind the end of all spans none is met.
use Rattle.std.proofs.Common.{ℕ, ◌≤◌, List, sym, ◌∙◌, ap, subst, arith}
use Rattle.oc_shelf.specs.Reading.Spans.{end_at, IsMet}
use Rattle.oc_shelf.proofs.reading.spans.Spans.is_met.Goals as goal

pub returns-then-begin-self-clause-met : goal.returns-then-begin-self-clause-met
returns-then-begin-self-clause-met c is = subst (λ (spans : List (ℕ × ℕ)). IsMet spans c.args.begin c.args.end) c.self.view_is (c.meets.ensures.met is)

pub returns-then-begin-self-clause-free : goal.returns-then-begin-self-clause-free
returns-then-begin-self-clause-free c is met = c.meets.ensures.free is (subst (λ (spans : List (ℕ × ℕ)). IsMet spans c.args.begin c.args.end) (sym c.self.view_is) met)

pub returns-else-begin-self-clause-free : goal.returns-else-begin-self-clause-free
returns-else-begin-self-clause-free c is met =
    let within : met.stop ≤ c.self.inside.top = c.self.invariant.1 met.start met.stop (ap (λ (spans : List (ℕ × ℕ)). end_at spans met.start) c.self.view_is ∙ met.there) in
    let past : c.self.inside.top ≤ c.args.begin = omega (arith, c.if-begin-self.false) in
    let behind = met.behind in
    absurd (omega (arith, within, past, behind))
