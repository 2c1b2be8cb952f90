-- Where the first repeat of a list of names ends, while they are judged one after the other.
use Rattle.std.proofs.Common.{◌≡◌, ℕ, zero, suc, ◌+◌, ◌<◌, false, length, Option, None, Some, refl, sym, ◌∙◌, ap, arith, inl, inr}
use Rattle.std.specs.{Prelude.{nat_eq}, Option.{is_some, option_and_then, option_map, option_map_or}}
use Rattle.std.proofs.lemmas.{Bool.{cases_eq, cases_lt, eq-eqb, ne_eqb, true≢false}, Option.{none-some}}
use Rattle.oc_linking.specs.Numbers.{first_upto, or_else}
use Rattle.oc_linking.proofs.FirstFaultLaws.{first_upto_none}
use Rattle.oc_strings.specs.{declared.repeats.Repeat.{Repeat}, Repeats.{NameList, first_repeat, name_at, place_of, repeat_at}}

-- the first of several is that of an entry before which none has one
record IsFound {X : Type 0} (item : ℕ → Option X) (n : ℕ) (x : X) : Type 0 where
  pub k : ℕ
  pub below : k < n
  pub is : item k ≡ Some x
  pub first : (i : ℕ) → i < k → item i ≡ None

found_first : {X : Type 0} (item : ℕ → Option X) (n : ℕ) (x : X) → first_upto item n ≡ Some x → IsFound item n x
found_first item zero x e = absurd (none-some x e)
found_first {X} item (suc n) x e = by (first_upto item n) refl e (found_first item n x)
  where
    by : (o : Option X) → first_upto item n ≡ o → or_else o (item n) ≡ Some x → (first_upto item n ≡ Some x → IsFound item n x) → IsFound item (suc n) x
    by None h e before = record { k = n; below = omega arith; is = e; first = λ i low. first_upto_none item n h i low }
    by (Some y) h e before =
        let m = before (h ∙ e) in
        record { k = m.k; below = let l = m.below in omega (arith, l); is = m.is; first = m.first }

-- a repeat that is told of a position ends there
repeat_later : (names : NameList) (k : ℕ) (r : Repeat) → repeat_at names k ≡ Some r → r.later ≡ k
repeat_later names k r e = by (option_and_then (place_of names k) (name_at names k)) e
  where
    by : (o : Option ℕ) → option_map {U = Repeat} (λ place. record { earlier = place; later = k }) o ≡ Some r → r.later ≡ k
    by o h = grind arith

-- while no name before is a repeat, the first repeat ends at a name exactly where that stood before
pub repeat_ends : (names : NameList) (found : Option Repeat) (k : ℕ) → found ≡ first_repeat names → k < length names → ((j : ℕ) → j < k → is_some (repeat_at names j) ≡ false)
    → option_map_or (λ (r : Repeat). nat_eq r.later k) found false ≡ is_some (repeat_at names k)
repeat_ends names None k is low new = sym (ap is_some (first_upto_none (repeat_at names) (length names) (sym is) k low))
repeat_ends names (Some r) k is low new = by (found_first (repeat_at names) (length names) r (sym is))
  where
    by : IsFound (repeat_at names) (length names) r → nat_eq r.later k ≡ is_some (repeat_at names k)
    by m = elim (cases_eq m.k k) [
      | inl same ↦ eq-eqb r.later k (repeat_later names m.k r m.is ∙ same) ∙ sym (ap is_some (ap (repeat_at names) (sym same) ∙ m.is))
      | inr other ↦ elim (cases_lt k m.k) [
        | inl before ↦
            let ends = repeat_later names m.k r m.is in
            ne_eqb r.later k (λ same. other (sym ends ∙ same)) ∙ sym (ap is_some (m.first k before))
        | inr past ↦ absurd (true≢false (sym (ap is_some m.is) ∙ new m.k (omega (arith, past, other))))
      ]
    ]
