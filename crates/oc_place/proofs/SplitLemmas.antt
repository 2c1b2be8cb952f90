-- Texts that are split at a byte.
use Rattle.std.proofs.Common.{◌≡◌, ℕ, ◌+◌, ◌<◌, Bool, true, false, cond, List, [], ◌∷◌, length, length-drop, get_or, ◌-◌, take, drop, refl, sym, ◌∙◌, ap, subst, arith}
use Rattle.std.specs.{Prelude.{nat_eq}, List.{slice_split, onto_first, position_or_len}}
use Rattle.std.proofs.lemmas.{Bool.{false_from_ne_true}, List.{get_or_default, take_all}, List.Splits.{slice_split_first, slice_split_none}}
use Rattle.std.proofs.lemmas.List.Sums.{position_or_len_is}
use Rattle.memchr.specs.Find.{is_byte, NoneBefore, Nowhere, Passes}

-- a split gives a part at least
pub split_some : {X : Type 0} (p : X → Bool) (xs : List X) → (y : List X) × (ys : List (List X)) × (slice_split p xs ≡ y ∷ ys)
split_some p [] = ([], [], refl)
split_some {X} p (x ∷ xs) = by (p x) (split_some p xs)
  where
    by : (b : Bool) → (y : List X) × (ys : List (List X)) × (slice_split p xs ≡ y ∷ ys)
        → (y : List X) × (ys : List (List X)) × (cond b ([] ∷ slice_split p xs) (onto_first x (slice_split p xs)) ≡ y ∷ ys)
    by true m = ([], slice_split p xs, refl)
    by false m = (x ∷ m.0, m.1, ap (onto_first x) m.2)

module _ (c : ℕ) (xs : List ℕ) where
  -- a text whose first such byte stands at k
  pub split_found : (k : ℕ) → NoneBefore (Passes (is_byte c) xs) 0 (length xs) k → Passes (is_byte c) xs k
      → slice_split (λ b. nat_eq b c) xs ≡ take k xs ∷ slice_split (λ b. nat_eq b c) (drop (k + 1) xs)
  split_found k first here =
      let inside : k < length xs = first.high in
      let at : position_or_len (λ b. nat_eq b c) xs ≡ k = position_or_len_is (λ b. nat_eq b c) xs k 0 (omega (arith, inside))
      (λ j l. false_from_ne_true (nat_eq (get_or xs j 0) c) (λ e. first.before j (omega arith) l e)) (λ l. here) in
      slice_split_first (λ b. nat_eq b c) xs 0 (omega (arith, at, inside)) ∙ ap (λ j. take j xs ∷ slice_split (λ b. nat_eq b c) (drop (j + 1) xs)) at

  -- a text without such a byte
  pub split_none : Nowhere (Passes (is_byte c) xs) 0 (length xs) → slice_split (λ b. nat_eq b c) xs ≡ xs ∷ []
  split_none none =
      slice_split_none (λ b. nat_eq b c) xs (λ k d l.
      false_from_ne_true (nat_eq (get_or xs k d) c) (λ e. none k (omega arith) l (subst (λ x. nat_eq x c ≡ true) (get_or_default xs k d 0 l) e)))

-- what comes after a place, by another look at it
pub rest_again : (xs : List ℕ) (k : ℕ) → drop k xs ≡ take (length xs - k) (drop k xs)
rest_again xs k = let e = length-drop k xs in sym (take_all (length xs - k) (drop k xs) (omega (arith, e)))
