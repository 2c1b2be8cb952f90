-- The name goes to those of its kind.
use Rattle.std.proofs.Common.{◌≡◌, ℕ, List, Some, refl, sym, ◌∙◌, ap, subst}
use Rattle.std.specs.{Prelude.{bytes_eq, is_some}, Map.{update}}
use Rattle.oc_omf_judge.specs.NameNumbers.{value_at}
use Rattle.oc_omf_judge.proofs.SeenSteps.{global_seen, local_seen, stood_before}
use Rattle.oc_omf_judge.proofs.earlier.EarlierSymbols.take_name.Goals as goal

pub returns-then-local : goal.returns-then-local
returns-then-local c = λ t p is kind name.
    let own = kind ∙ c.if-local.true in (
      c.is_some.ensures ∙ ap is_some (c.in_ok-before.ensures.before ∙ ap (value_at c.args.self.now.locals) (sym name)) ∙ stood_before t _ c.args.self.now.locals p is.locals_are own,
      local_seen t c.args.self.now _ p 0 is own
          (subst (λ (n : List ℕ). (other : List ℕ) → value_at c.take_up.new.held other ≡ update bytes_eq (value_at c.args.self.now.locals) n (Some 0) other) (sym name) c.in_ok-before.ensures.taken) refl refl refl refl refl,
    )

pub returns : goal.returns
returns c = λ t p is kind name.
    let own = kind ∙ c.if-local.false in (
      c.is_some-2.ensures ∙ ap is_some (c.in_ok-before-2.ensures.before ∙ ap (value_at c.args.self.now.globals) (sym name)) ∙ stood_before t _ c.args.self.now.globals p is.globals_are own,
      global_seen t c.args.self.now _ p 0 is own
          (subst (λ (n : List ℕ). (other : List ℕ) → value_at c.take_up-2.new.held other ≡ update bytes_eq (value_at c.args.self.now.globals) n (Some 0) other) (sym name) c.in_ok-before-2.ensures.taken) refl refl refl refl refl,
    )
