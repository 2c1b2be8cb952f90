-- Slots that are filled, and slots that are put behind others.
use Rattle.std.proofs.Common.{◌≡◌, ℕ, zero, suc, ◌+◌, ◌<◌, ◌≤◌, inl, inr, cond, eqb, List, [], ◌∷◌, ◌++◌, length, get_or, set, replicate, Option, Some, None, refl, sym, ◌∙◌, ap, arith, length-append}
use Rattle.std.proofs.lemmas.{Bool.{cases_eq, cases_lt, eq-eqb, ne_eqb}, List.{get_or-set_same, length-set, get_or_append_left, get_or-append-add}}
use Rattle.oc_shelf.specs.Reading.Slots.{AreSlots}

get_or-set_other : {X : Type 0} (xs : List X) (i j : ℕ) (x d : X) → (i ≡ j → ⊥) → get_or (set xs i x) j d ≡ get_or xs j d
get_or-set_other [] i j x d ne = refl
get_or-set_other (y ∷ xs) zero zero x d ne = absurd (ne refl)
get_or-set_other (y ∷ xs) zero (suc j) x d ne = refl
get_or-set_other (y ∷ xs) (suc i) zero x d ne = refl
get_or-set_other (y ∷ xs) (suc i) (suc j) x d ne = get_or-set_other xs i j x d (λ e. ne (ap (λ (k : ℕ). suc k) e))

pub get_or-replicate : {X : Type 0} (n j : ℕ) (x : X) → get_or (replicate n x) j x ≡ x
get_or-replicate zero j x = refl
get_or-replicate (suc n) zero x = refl
get_or-replicate (suc n) (suc j) x = get_or-replicate n j x

pub length-replicate : {X : Type 0} (n : ℕ) (x : X) → length (replicate n x) ≡ n
length-replicate zero x = refl
length-replicate (suc n) x = omega (arith, length-replicate n x)

-- empty slots
pub slots_empty : (f : ℕ → Option ℕ) (n : ℕ) → ((j : ℕ) → f j ≡ None) → AreSlots f n (replicate n None)
slots_empty f n none = record { long = length-replicate n None; each = λ j l. get_or-replicate n j None ∙ sym (none j) }

-- the same numbers
pub slots_same : (f g : ℕ → Option ℕ) (n : ℕ) (xs : List (Option ℕ)) → AreSlots f n xs → ((j : ℕ) → g j ≡ f j) → AreSlots g n xs
slots_same f g n xs are same = record { long = are.long; each = λ j l. are.each j l ∙ sym (same j) }

-- a slot more is filled
pub slots_filled : (f g : ℕ → Option ℕ) (n k v : ℕ) (xs : List (Option ℕ)) → AreSlots f n xs → k < n → ((j : ℕ) → g j ≡ cond (eqb k j) (Some v) (f j)) → AreSlots g n (set xs k (Some v))
slots_filled f g n k v xs are l is = record {
  long = length-set xs k (Some v) ∙ are.long;
  each = λ j low. elim (cases_eq k j) [
    | inl same ↦
        ap (λ (i : ℕ). get_or (set xs k (Some v)) i None) (sym same) ∙ get_or-set_same xs k (Some v) None (let long = are.long in omega (arith, long))
        ∙ sym (is j ∙ ap (λ b. cond b (Some v) (f j)) (eq-eqb k j same))
    | inr other ↦ get_or-set_other xs k j (Some v) None other ∙ are.each j low ∙ sym (is j ∙ ap (λ b. cond b (Some v) (f j)) (ne_eqb k j other))
  ];
}

-- a slot more is put behind
pub slots_pushed : (f : ℕ → Option ℕ) (n : ℕ) (v : Option ℕ) (xs : List (Option ℕ)) → AreSlots f n xs → v ≡ f n → AreSlots f (n + 1) (xs ++ v ∷ [])
slots_pushed f n v xs are is = record {
  long = let long = are.long in omega (arith, long, length-append xs (v ∷ []));
  each = λ j low. elim (cases_eq j n) [
    | inl same ↦
        let long = are.long in
        let at : j ≡ length xs + 0 = omega (arith, long, same) in
        ap (λ (i : ℕ). get_or (xs ++ v ∷ []) i None) at ∙ get_or-append-add xs (v ∷ []) 0 None ∙ is ∙ ap f (sym same)
    | inr other ↦
        let long = are.long in
        let before : j < n = omega (arith, low, other) in
        get_or_append_left xs (v ∷ []) None j (omega (arith, long, before)) ∙ are.each j before
  ];
}

-- slots of what is nothing past the last have it everywhere
pub slot_anywhere : (f : ℕ → Option ℕ) (n : ℕ) (xs : List (Option ℕ)) → AreSlots f n xs → ((j : ℕ) → n ≤ j → f j ≡ None) → (j : ℕ) → get_or xs j None ≡ f j
slot_anywhere f n xs are none j = elim (cases_lt j n) [
  | inl low ↦ are.each j low
  | inr past ↦ let long = are.long in past_end xs j (omega (arith, long, past)) ∙ sym (none j past)
]
  where
    past_end : (xs : List (Option ℕ)) (j : ℕ) → length xs ≤ j → get_or xs j None ≡ None
    past_end [] j le = refl
    past_end (x ∷ xs) zero le = absurd (omega arith)
    past_end (x ∷ xs) (suc j) le = past_end xs j (omega arith)
