-- The first that is there, and the first that passes.
use Rattle.std.proofs.Common.{◌≡◌, ℕ, zero, suc, ◌+◌, ◌-◌, ◌<◌, inl, inr, Bool, false, cond, Option, Some, None, refl, ◌∙◌, ap, subst, arith}
use Rattle.std.proofs.lemmas.{Bool.{cases_eq}, Option.{none-some}}
use Rattle.oc_linking.specs.Numbers.{or_else, first_upto, first_from}

-- item i is the first, where none before it is there
pub first_upto_stop : {X : Type 0} (item : ℕ → Option X) (i n : ℕ) (x : X) → first_upto item i ≡ None → item i ≡ Some x → i < n → first_upto item n ≡ Some x
first_upto_stop item i zero x none here l = absurd (omega arith)
first_upto_stop item i (suc n) x none here l = elim (cases_eq i n) [
  | inl same ↦ let e : first_upto item n ≡ None = subst (λ k. first_upto item k ≡ None) same none in
      rw e (subst (λ k. item k ≡ Some x) same here)
  | inr other ↦ rw (first_upto_stop item i n x none here (omega arith)) refl
]

-- what is found is an item
pub first_upto_from : {X : Type 0} (item : ℕ → Option X) (n : ℕ) (x : X) → first_upto item n ≡ Some x → (k : ℕ) × (k < n) × (item k ≡ Some x)
first_upto_from item zero x e = absurd (none-some x e)
first_upto_from item (suc n) x e =
    elim (first_upto item n) as (λ o. first_upto item n ≡ o → or_else o (item n) ≡ Some x → (k : ℕ) × (k < suc n) × (item k ≡ Some x)) [
      | None ↦ λ h e. (n, omega arith, e)
      | Some y ↦ λ h e. let m = first_upto_from item n x (h ∙ e) in (m.0, omega (arith, m.1), m.2)
    ] refl e

-- a search goes on past a number that fails
pub first_from_step : (test : ℕ → Bool) (i n : ℕ) → test i ≡ false → i < n → first_from test i (n - i) ≡ first_from test (i + 1) (n - (i + 1))
first_from_step test i n fails l =
    let e : n - i ≡ suc (n - (i + 1)) = omega arith in
    ap (first_from test i) e ∙ ap (λ b. cond b (Some i) (first_from test (i + 1) (n - (i + 1)))) fails
