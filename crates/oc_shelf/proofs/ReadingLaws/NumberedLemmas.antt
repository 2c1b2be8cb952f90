-- Symbols that differ in their numbers.
use Rattle.std.proofs.Common.{◌≡◌, ℕ, zero, suc, ◌+◌, ◌<◌, Bool, true, false, cond, List, [], ◌∷◌, Some, refl, sym, ◌∙◌, ap, subst, arith, inl, inr}
use Rattle.std.specs.{Prelude.{not, nat_eq, slice_get}, List.{position_or_len}}
use Rattle.std.proofs.lemmas.{Bool.{cases_eq, cases_lt, eq-eqb, eqb-true, true≢false}, Option.{none-some, same_Some}}
use Rattle.oc_linking.specs.Parts as parts

-- no two have one number
abbrev AreApart : List parts.Symbol → Type 0
AreApart symbols = (i j : ℕ) (s t : parts.Symbol) → i < j → slice_get symbols i ≡ Some s → slice_get symbols j ≡ Some t → s.number ≡ t.number → ⊥

-- a symbol stands at the position of its number
pub stands_numbered : (symbols : List parts.Symbol) → AreApart symbols → (j : ℕ) (x : parts.Symbol) → slice_get symbols j ≡ Some x → slice_get symbols (position_or_len (λ (s : parts.Symbol). nat_eq s.number x.number) symbols) ≡ Some x
stands_numbered [] apart j x here = absurd (none-some x here)
stands_numbered (y ∷ ys) apart j x here =
    by (nat_eq y.number x.number) refl j here (λ k there. stands_numbered ys (λ i j s u less at_i at_j. apart (suc i) (suc j) s u (omega (arith, less)) at_i at_j) k x there)
  where
    later : ℕ
    later = position_or_len (λ (s : parts.Symbol). nat_eq s.number x.number) ys

    by : (b : Bool) → nat_eq y.number x.number ≡ b → (j : ℕ) → slice_get (y ∷ ys) j ≡ Some x → ((k : ℕ) → slice_get ys k ≡ Some x → slice_get ys later ≡ Some x)
        → slice_get (y ∷ ys) (cond (not b) (1 + later) 0) ≡ Some x
    by true e zero here rest = here
    by true e (suc k) here rest = absurd (apart 0 (suc k) y x (omega arith) refl here (eqb-true y.number x.number e))
    by false e zero here rest = absurd (true≢false (sym (eq-eqb y.number x.number (ap (λ (s : parts.Symbol). s.number) (same_Some y x here))) ∙ e))
    by false e (suc k) here rest =
        let one : suc later ≡ 1 + later = omega arith in
        subst (λ (p : ℕ). slice_get (y ∷ ys) p ≡ Some x) one (rest k here)

-- two positions of one number are one
pub one_position : (symbols : List parts.Symbol) → AreApart symbols → (p q : ℕ) (x : parts.Symbol) → slice_get symbols p ≡ Some x → slice_get symbols q ≡ Some x → p ≡ q
one_position symbols apart p q x at_p at_q = elim (cases_eq p q) [
  | inl same ↦ same
  | inr other ↦ elim (cases_lt p q) [
    | inl less ↦ absurd (apart p q x x less at_p at_q refl)
    | inr past ↦ absurd (apart q p x x (omega (arith, past, other)) at_q at_p refl)
  ]
]
