-- The first of a name is taken up.
use Rattle.std.proofs.Common.{◌≡◌, ℕ, List, Some, sym, ◌∙◌, ap, subst}
use Rattle.std.specs.{Prelude.{bytes_eq, is_some}, Map.{update}}
use Rattle.oc_omf_judge.specs.NameNumbers.{value_at}
use Rattle.oc_omf_judge.proofs.LocalLemmas.{local_known, local_new, local_other}
use Rattle.oc_omf_judge.proofs.locals.locate.Goals as goal

pub returns-then-not-local : goal.returns-then-not-local
returns-then-not-local c = λ publics p are kind name segment. local_other publics c.args.locals.now p are (kind ∙ c.if-not-local.true)

pub returns-then-is_some : goal.returns-then-is_some
returns-then-is_some c = λ publics p are kind name segment.
    local_known publics c.args.locals.now p are (ap (λ (n : List ℕ). is_some (value_at c.args.locals.now n)) name ∙ ap is_some (sym c.value_of.ensures) ∙ sym c.is_some.ensures ∙ c.if-is_some.true)

pub returns : goal.returns
returns c = λ publics p are kind name segment.
    local_new publics c.args.locals.now c.take_up.new.held p are (kind ∙ c.if-not-local.false)
    (ap (λ (n : List ℕ). is_some (value_at c.args.locals.now n)) name ∙ ap is_some (sym c.value_of.ensures) ∙ sym c.is_some.ensures ∙ c.if-is_some.false)
    (subst (λ (n : List ℕ). (other : List ℕ) → value_at c.take_up.new.held other ≡ update bytes_eq (value_at c.args.locals.now) n (Some p.segment) other) (sym name)
    (λ other. c.in_ok-_before.ensures.taken other ∙ ap (λ (s : ℕ). update bytes_eq (value_at c.args.locals.now) c.args.name.now (Some s) other) (c.from.ensures ∙ sym segment)))
