-- Lists of which some stay: where each that stays comes to stand.
use Rattle.std.proofs.Common.{◌≡◌, ℕ, zero, suc, ◌+◌, ◌<◌, ◌≤◌, Bool, true, false, cond, List, [], ◌∷◌, ◌++◌, length, take, drop, set, get_or, Some, inl, inr, refl, sym, ◌∙◌, ap, arith}
use Rattle.std.specs.{Prelude.{slice_get}, List.{AllByRecursion, sum_by, swap}}
use Rattle.std.proofs.lemmas.Bool.{cases_lt, true≢false}
use Rattle.std.proofs.lemmas.List.{drop-drop, drop-set-lt, get_or_default, get_or-drop, length-set, take-set, take-set-le, take_more_set}
use Rattle.std.proofs.lemmas.{List.Edits.{length-swap, swap_is}, List.Sums.{sum_by-cons}, Option.{none-some}}
use Rattle.oc_linking.specs.Keeping.{kept_of}
use Rattle.oc_neutral.specs.Without.{new_position}

-- the item at a position stays
abbrev pub Stays : List Bool → ℕ → Type 0
Stays stay k = get_or stay k true ≡ true

module _ {X : Type 0} where
  -- one that stays stands at its new position
  pub kept_there : (stay : List Bool) (xs : List X) (k : ℕ) (x : X) → length xs ≡ length stay → Stays stay k → slice_get xs k ≡ Some x → slice_get (kept_of stay xs) (new_position stay k) ≡ Some x
  kept_there stay [] k x long is here = absurd (none-some x here)
  kept_there [] (y ∷ xs) k x long is here = absurd (omega (arith, long))
  kept_there (true ∷ stay) (y ∷ xs) zero x long is here = here
  kept_there (false ∷ stay) (y ∷ xs) zero x long is here = absurd (true≢false (sym is))
  kept_there (true ∷ stay) (y ∷ xs) (suc k) x long is here = kept_there stay xs k x (omega (arith, long)) is here
  kept_there (false ∷ stay) (y ∷ xs) (suc k) x long is here = kept_there stay xs k x (omega (arith, long)) is here

  -- and each of the list that is left comes from there
  pub kept_from : (stay : List Bool) (xs : List X) (j : ℕ) (x : X) → length xs ≡ length stay → slice_get (kept_of stay xs) j ≡ Some x
      → (k : ℕ) × (slice_get xs k ≡ Some x) × Stays stay k × (new_position stay k ≡ j)
  kept_from stay [] j x long here = absurd (none-some x here)
  kept_from [] (y ∷ xs) j x long here = absurd (omega (arith, long))
  kept_from (true ∷ stay) (y ∷ xs) zero x long here = (0, here, refl, refl)
  kept_from (true ∷ stay) (y ∷ xs) (suc j) x long here = let m = kept_from stay xs j x (omega (arith, long)) here in (suc m.0, m.1, m.2, ap suc m.3)
  kept_from (false ∷ stay) (y ∷ xs) j x long here = let m = kept_from stay xs j x (omega (arith, long)) here in (suc m.0, m.1, m.2, m.3)

  -- what holds of each holds of each that is left
  pub all_kept : (P : X → Type 0) (stay : List Bool) (xs : List X) → AllByRecursion P xs → AllByRecursion P (kept_of stay xs)
  all_kept P stay [] all = tt
  all_kept P [] (x ∷ xs) all = all
  all_kept P (true ∷ stay) (x ∷ xs) all = (all.0, all_kept P stay xs all.1)
  all_kept P (false ∷ stay) (x ∷ xs) all = all_kept P stay xs all.1

  pub kept_few : (stay : List Bool) (xs : List X) → length (kept_of stay xs) ≤ length xs
  kept_few stay [] = omega arith
  kept_few [] (x ∷ xs) = omega arith
  kept_few (true ∷ stay) (x ∷ xs) = let le = kept_few stay xs in omega (arith, le)
  kept_few (false ∷ stay) (x ∷ xs) = let le = kept_few stay xs in omega (arith, le)

  -- a sum over those that are left
  pub sum_kept : (f : X → ℕ) (stay : List Bool) (xs : List X) → sum_by f (kept_of stay xs) ≤ sum_by f xs
  sum_kept f stay [] = omega arith
  sum_kept f [] (x ∷ xs) = omega arith
  sum_kept f (true ∷ stay) (x ∷ xs) = let le = sum_kept f stay xs in let a = sum_by-cons f x (kept_of stay xs) in let b = sum_by-cons f x xs in omega (arith, le, a, b)
  sum_kept f (false ∷ stay) (x ∷ xs) = let le = sum_kept f stay xs in let b = sum_by-cons f x xs in omega (arith, le, b)

  -- lists of one length are left as long
  pub kept_long : {Y : Type 0} (stay : List Bool) (xs : List X) (ys : List Y) → length xs ≡ length ys → length (kept_of stay xs) ≡ length (kept_of stay ys)
  kept_long stay [] [] long = refl
  kept_long stay [] (y ∷ ys) long = absurd (omega (arith, long))
  kept_long stay (x ∷ xs) [] long = absurd (omega (arith, long))
  kept_long [] (x ∷ xs) (y ∷ ys) long = long
  kept_long (true ∷ stay) (x ∷ xs) (y ∷ ys) long = let e = kept_long stay xs ys (omega (arith, long)) in omega (arith, e)
  kept_long (false ∷ stay) (x ∷ xs) (y ∷ ys) long = kept_long stay xs ys (omega (arith, long))

-- new positions stand in the order of the old ones
pub positions_rise : (stay : List Bool) (j k : ℕ) → j ≤ k → new_position stay j ≤ new_position stay k
positions_rise [] zero k le = omega arith
positions_rise [] (suc j) zero le = absurd (omega (arith, le))
positions_rise [] (suc j) (suc k) le = omega arith
positions_rise (b ∷ stay) zero k le = omega arith
positions_rise (b ∷ stay) (suc j) zero le = absurd (omega (arith, le))
positions_rise (true ∷ stay) (suc j) (suc k) le = let m = positions_rise stay j k (omega (arith, le)) in omega (arith, m)
positions_rise (false ∷ stay) (suc j) (suc k) le = positions_rise stay j k (omega (arith, le))

-- and that of one that stays is its own
pub positions_differ : (stay : List Bool) (j k : ℕ) → j < k → j < length stay → Stays stay j → new_position stay j < new_position stay k
positions_differ [] j k lt low is = absurd (omega (arith, low))
positions_differ (true ∷ stay) zero zero lt low is = absurd (omega (arith, lt))
positions_differ (true ∷ stay) zero (suc k) lt low is = omega arith
positions_differ (false ∷ stay) zero k lt low is = absurd (true≢false (sym is))
positions_differ (b ∷ stay) (suc j) zero lt low is = absurd (omega (arith, lt))
positions_differ (true ∷ stay) (suc j) (suc k) lt low is = let m = positions_differ stay j k (omega (arith, lt)) (omega (arith, low)) is in omega (arith, m)
positions_differ (false ∷ stay) (suc j) (suc k) lt low is = positions_differ stay j k (omega (arith, lt)) (omega (arith, low)) is

-- the order of the new positions is that of the old ones
pub old_order : (stay : List Bool) (j k : ℕ) → new_position stay j < new_position stay k → j < k
old_order stay j k lt = elim (cases_lt j k) [
  | inl l ↦ l
  | inr ge ↦ absurd (let m = positions_rise stay k j ge in omega (arith, m, lt))
]

-- two that stay at one new position are one
pub one_position : (stay : List Bool) (j k : ℕ) → j < length stay → k < length stay → Stays stay j → Stays stay k → new_position stay j ≡ new_position stay k → j ≡ k
one_position stay j k low low' is is' same = elim (cases_lt j k) [
  | inl l ↦ absurd (let m = positions_differ stay j k l low is in omega (arith, m, same))
  | inr ge ↦ elim (cases_lt k j) [
    | inl l ↦ absurd (let m = positions_differ stay k j l low' is' in omega (arith, m, same))
    | inr le ↦ omega (arith, ge, le)
  ]
]

-- one more item, which stays or goes
kept_next : {X : Type 0} (stay : List Bool) (xs : List X) (k : ℕ) (d : X) → k < length stay → k < length xs
    → kept_of (take (suc k) stay) (take (suc k) xs) ≡ cond (get_or stay k true) (kept_of (take k stay) (take k xs) ++ get_or xs k d ∷ []) (kept_of (take k stay) (take k xs))
kept_next [] xs k d lt below = absurd (omega (arith, lt))
kept_next (b ∷ stay) [] k d lt below = absurd (omega (arith, below))
kept_next (true ∷ stay) (x ∷ xs) zero d lt below = refl
kept_next (false ∷ stay) (x ∷ xs) zero d lt below = refl
kept_next {X} (true ∷ stay) (x ∷ xs) (suc k) d lt below =
    ap (λ ys. x ∷ ys) (kept_next stay xs k d (omega (arith, lt)) (omega (arith, below))) ∙ into (get_or stay k true) (kept_of (take k stay) (take k xs) ++ get_or xs k d ∷ []) (kept_of (take k stay) (take k xs))
  where
    into : (c : Bool) (a b : List X) → x ∷ cond c a b ≡ cond c (x ∷ a) (x ∷ b)
    into c a b = grind arith
kept_next (false ∷ stay) (x ∷ xs) (suc k) d lt below = kept_next stay xs k d (omega (arith, lt)) (omega (arith, below))

pub kept_more : {X : Type 0} (stay : List Bool) (xs : List X) (k : ℕ) (d : X) → k < length stay → k < length xs
    → kept_of (take (k + 1) stay) (take (k + 1) xs) ≡ cond (get_or stay k true) (kept_of (take k stay) (take k xs) ++ get_or xs k d ∷ []) (kept_of (take k stay) (take k xs))
kept_more stay xs k d lt below = let e : k + 1 ≡ suc k = omega arith in ap (λ j. kept_of (take j stay) (take j xs)) e ∙ kept_next stay xs k d lt below

-- ... items that are moved down in place

-- a swap puts a later item after those before the place, and leaves what comes after the item
swap_take : {X : Type 0} (xs : List X) (i j : ℕ) (d : X) → i ≤ j → j < length xs → take (i + 1) (swap xs i j) ≡ take i xs ++ get_or xs j d ∷ []
swap_take xs i j d le lt = ap (take (i + 1)) (sym (swap_is xs i j d (omega (arith, le, lt)) lt)) ∙ elim (cases_lt i j) [
  | inl l ↦ take-set-le (i + 1) (set xs i (get_or xs j d)) j (get_or xs i d) (omega (arith, l)) ∙ take_more_set xs i (get_or xs j d) (omega (arith, le, lt))
  | inr ge ↦
      let same : i ≡ j = omega (arith, le, ge) in
      ap (λ k. take (k + 1) (set (set xs i (get_or xs j d)) j (get_or xs i d))) same
      ∙ take_more_set (set xs i (get_or xs j d)) j (get_or xs i d) (omega (arith, length-set xs i (get_or xs j d), lt))
      ∙ ap (λ k. take k (set xs i (get_or xs j d)) ++ get_or xs i d ∷ []) (sym same)
      ∙ ap (λ zs. zs ++ get_or xs i d ∷ []) (take-set xs i (get_or xs j d))
      ∙ ap (λ k. take i xs ++ get_or xs k d ∷ []) same
]

swap_drop : {X : Type 0} (xs : List X) (i j : ℕ) (d : X) → i ≤ j → j < length xs → drop (j + 1) (swap xs i j) ≡ drop (j + 1) xs
swap_drop xs i j d le lt =
    ap (drop (j + 1)) (sym (swap_is xs i j d (omega (arith, le, lt)) lt))
    ∙ drop-set-lt (j + 1) (set xs i (get_or xs j d)) j (get_or xs i d) (omega arith)
    ∙ drop-set-lt (j + 1) xs i (get_or xs j d) (omega (arith, le))

-- of the items before a place those that stay stand first; those from the place on are as they were
pub record IsKeeping {X : Type 0} (stay : List Bool) (old now : List X) (left at : ℕ) : Type 0 where
  pub low : left ≤ at
  pub long : length now ≡ length old
  pub first : take left now ≡ kept_of (take at stay) (take at old)
  pub rest : drop at now ≡ drop at old

module _ {X : Type 0} (stay : List Bool) (old : List X) where
  module _ (now : List X) (left at : ℕ) (d : X) (all : length stay ≡ length old) (lt : at < length stay) (keeping : IsKeeping stay old now left at) where
    same_item : get_or now at d ≡ get_or old at d
    same_item = let zero_more : at + 0 ≡ at = omega arith in
        ap (λ k. get_or now k d) (sym zero_more) ∙ sym (get_or-drop at now 0 d)
        ∙ ap (λ xs. get_or xs 0 d) keeping.rest
        ∙ get_or-drop at old 0 d ∙ ap (λ k. get_or old k d) zero_more

    same_rest : drop (at + 1) now ≡ drop (at + 1) old
    same_rest = sym (drop-drop 1 at now) ∙ ap (drop 1) keeping.rest ∙ drop-drop 1 at old

    more : (b : Bool) → get_or stay at true ≡ b
        → kept_of (take (at + 1) stay) (take (at + 1) old) ≡ cond b (kept_of (take at stay) (take at old) ++ get_or old at d ∷ []) (kept_of (take at stay) (take at old))
    more b is = kept_more stay old at d lt (omega (arith, all, lt)) ∙ ap (λ c. cond c (kept_of (take at stay) (take at old) ++ get_or old at d ∷ []) (kept_of (take at stay) (take at old))) is

    pub keeping_stays : (f : Bool) → get_or stay at f ≡ true → (next : List X) → next ≡ swap now left at → IsKeeping stay old next (left + 1) (at + 1)
    keeping_stays f stays next is = record {
      low = omega (arith, keeping.low);
      long = ap length is ∙ length-swap now left at ∙ keeping.long;
      first =
          ap (take (left + 1)) is ∙ swap_take now left at d keeping.low (omega (arith, all, lt, keeping.long))
          ∙ ap (λ xs. xs ++ get_or now at d ∷ []) keeping.first
          ∙ ap (λ x. kept_of (take at stay) (take at old) ++ x ∷ []) same_item
          ∙ sym (more true (get_or_default stay at true f lt ∙ stays));
      rest = ap (drop (at + 1)) is ∙ swap_drop now left at d keeping.low (omega (arith, all, lt, keeping.long)) ∙ same_rest;
    }

    pub keeping_goes : (f : Bool) → get_or stay at f ≡ false → IsKeeping stay old now left (at + 1)
    keeping_goes f goes = record {
      low = omega (arith, keeping.low);
      long = keeping.long;
      first = keeping.first ∙ sym (more false (get_or_default stay at true f lt ∙ goes));
      rest = same_rest;
    }
