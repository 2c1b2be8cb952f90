-- The keys of groups, gathered one after the other: each stands once, where it begins.
use Rattle.std.proofs.Common.{◌≡◌, ◌≢◌, ℕ, zero, suc, ◌+◌, ◌<◌, Bool, true, false, cond, List, [], ◌∷◌, ◌++◌, append_assoc, length, map, Option, None, Some, refl, sym, ◌∙◌, ap, subst, arith}
use Rattle.std.specs.{Prelude.{not, ◌||◌, bytes_eq, slice_get}, List.{AllByRecursion, list_any, position_or_len}, Option.{option_map}}
use Rattle.std.proofs.lemmas.{Bool.{eq-eqb, ne_eqb, true≢false, or_parts}, List.{length-append}, List.Folds.{list_any-append}, Option.{none-some, same_Some}}
use Rattle.std.proofs.lemmas.Slice.Eq.{bytes_eq-Decides}
use Rattle.oc_base.specs.Strings.{is_given}
use Rattle.oc_shows.specs.Computed.{keys_after}
use Rattle.oc_neutral.specs.Invariants.{AreBegun, IsNext, begun_with}
use Rattle.oc_shows.proofs.KeysMore.{position_stays}
use Rattle.oc_neutral.proofs.Positions.{each_at}

-- what holds of each key that a section has holds of all that are gathered
pub keys_all : (P : List ℕ → Type 0) (before : List (List ℕ)) (xs : List (Option (List ℕ))) → ((k : ℕ) (key : List ℕ) → slice_get xs k ≡ Some (Some key) → P key) → AllByRecursion P (keys_after before xs)
keys_all P before [] each = tt
keys_all P before (None ∷ xs) each = keys_all P before xs (λ k. each (suc k))
keys_all P before (Some first ∷ xs) each = by (is_given before first) (keys_all P before xs (λ k. each (suc k))) (keys_all P (before ++ first ∷ []) xs (λ k. each (suc k)))
  where
    by : (c : Bool) → AllByRecursion P (keys_after before xs) → AllByRecursion P (keys_after (before ++ first ∷ []) xs)
        → AllByRecursion P (cond c (keys_after before xs) (first ∷ keys_after (before ++ first ∷ []) xs))
    by true old new = old
    by false old new = (each 0 first refl, new)

-- none that is gathered stands before
new_keys : (before : List (List ℕ)) (xs : List (Option (List ℕ))) → AllByRecursion (λ key. is_given before key ≡ false) (keys_after before xs)
new_keys before [] = tt
new_keys before (None ∷ xs) = new_keys before xs
new_keys before (Some first ∷ xs) = by (is_given before first) refl (new_keys before xs) (fewer (keys_after (before ++ first ∷ []) xs) (new_keys (before ++ first ∷ []) xs))
  where
    fewer : (keys : List (List ℕ)) → AllByRecursion (λ key. is_given (before ++ first ∷ []) key ≡ false) keys → AllByRecursion (λ key. is_given before key ≡ false) keys
    fewer [] all = tt
    fewer (key ∷ keys) all = ((or_parts (is_given before key) (list_any (bytes_eq key) (first ∷ [])) (sym (list_any-append (bytes_eq key) before (first ∷ [])) ∙ all.0)).0, fewer keys all.1)

    by : (c : Bool) → is_given before first ≡ c → AllByRecursion (λ key. is_given before key ≡ false) (keys_after before xs) → AllByRecursion (λ key. is_given before key ≡ false) (keys_after (before ++ first ∷ []) xs)
        → AllByRecursion (λ key. is_given before key ≡ false) (cond c (keys_after before xs) (first ∷ keys_after (before ++ first ∷ []) xs))
    by true e old new = old
    by false e old new = (e, new)

-- those that are gathered differ
pub keys_apart : (before : List (List ℕ)) (xs : List (Option (List ℕ))) (i j : ℕ) (k l : List ℕ) → i < j → slice_get (keys_after before xs) i ≡ Some k → slice_get (keys_after before xs) j ≡ Some l → k ≢ l
keys_apart before [] i j k l low at_i at_j same = none-some k at_i
keys_apart before (None ∷ xs) i j k l low at_i at_j same = keys_apart before xs i j k l low at_i at_j same
keys_apart before (Some first ∷ xs) i j k l low at_i at_j same = by (is_given before first) i j low at_i at_j (λ m n less here there. keys_apart before xs m n k l less here there same)
    (λ m n less here there. keys_apart (before ++ first ∷ []) xs m n k l less here there same)
  where
    apart : (n : ℕ) → slice_get (keys_after (before ++ first ∷ []) xs) n ≡ Some l → first ≡ l → ⊥
    apart n there e =
        let new : is_given (before ++ first ∷ []) l ≡ false = each_at (λ key. is_given (before ++ first ∷ []) key ≡ false) (keys_after (before ++ first ∷ []) xs) n l (new_keys (before ++ first ∷ []) xs) there in
        let last = (or_parts (is_given before l) (list_any (bytes_eq l) (first ∷ [])) (sym (list_any-append (bytes_eq l) before (first ∷ [])) ∙ new)).1 in
        true≢false (sym ((bytes_eq-Decides l first).1 (sym e)) ∙ (or_parts (bytes_eq l first) false last).0)

    by : (c : Bool) (m n : ℕ) → m < n → slice_get (cond c (keys_after before xs) (first ∷ keys_after (before ++ first ∷ []) xs)) m ≡ Some k
        → slice_get (cond c (keys_after before xs) (first ∷ keys_after (before ++ first ∷ []) xs)) n ≡ Some l
        → ((p q : ℕ) → p < q → slice_get (keys_after before xs) p ≡ Some k → slice_get (keys_after before xs) q ≡ Some l → ⊥)
        → ((p q : ℕ) → p < q → slice_get (keys_after (before ++ first ∷ []) xs) p ≡ Some k → slice_get (keys_after (before ++ first ∷ []) xs) q ≡ Some l → ⊥)
        → ⊥
    by true m n less here there old new = old m n less here there
    by false zero zero less here there old new = omega (arith, less)
    by false zero (suc n) less here there old new = apart n there (same_Some first k here ∙ same)
    by false (suc m) zero less here there old new = omega (arith, less)
    by false (suc m) (suc n) less here there old new = new m n (omega (arith, less)) here there

-- a key that is given has a position
pub given_low : (keys : List (List ℕ)) (key : List ℕ) → is_given keys key ≡ true → position_or_len (bytes_eq key) keys < length keys
given_low [] key given = absurd (true≢false (sym given))
given_low (k ∷ keys) key given = by (bytes_eq key k) given (given_low keys key)
  where
    by : (c : Bool) → (c || list_any (bytes_eq key) keys) ≡ true → (list_any (bytes_eq key) keys ≡ true → position_or_len (bytes_eq key) keys < length keys)
        → cond (not c) (1 + position_or_len (bytes_eq key) keys) 0 < suc (length keys)
    by true e rest = omega arith
    by false e rest = let low = rest e in omega (arith, low)

-- one that is new stands behind the others
pub new_last : (keys : List (List ℕ)) (key : List ℕ) → is_given keys key ≡ false → position_or_len (bytes_eq key) (keys ++ key ∷ []) ≡ length keys
new_last [] key new = ap (λ b. cond (not b) (1 + 0) 0) ((bytes_eq-Decides key key).1 refl)
new_last (k ∷ keys) key new = by (bytes_eq key k) new (new_last keys key)
  where
    by : (c : Bool) → (c || list_any (bytes_eq key) keys) ≡ false → (list_any (bytes_eq key) keys ≡ false → position_or_len (bytes_eq key) (keys ++ key ∷ []) ≡ length keys)
        → cond (not c) (1 + position_or_len (bytes_eq key) (keys ++ key ∷ [])) 0 ≡ suc (length keys)
    by true e rest = absurd (true≢false e)
    by false e rest = let r = rest e in omega (arith, r)

given_last : (keys : List (List ℕ)) (key : List ℕ) → is_given (keys ++ key ∷ []) key ≡ true
given_last keys key = list_any-append (bytes_eq key) keys (key ∷ []) ∙ ap (λ b. is_given keys key || (b || false)) ((bytes_eq-Decides key key).1 refl) ∙ right (is_given keys key)
  where
    right : (b : Bool) → (b || true) ≡ true
    right b = grind arith

-- each begins where the first section has it
pub keys_begin : (all before : List (List ℕ)) (xs : List (Option (List ℕ))) → all ≡ before ++ keys_after before xs
    → AreBegun (length all) (length before) (map (option_map (λ key. position_or_len (bytes_eq key) all)) xs)
keys_begin all before [] is = let long = ap length is in let sum = length-append before [] in omega (arith, long, sum)
keys_begin all before (None ∷ xs) is = (tt, keys_begin all before xs is)
keys_begin all before (Some first ∷ xs) is = by (is_given before first) refl is (keys_begin all before xs) (keys_begin all (before ++ first ∷ []) xs)
  where
    at : ℕ
    at = position_or_len (bytes_eq first) all

    left : List (Option ℕ)
    left = map (option_map (λ key. position_or_len (bytes_eq key) all)) xs

    by : (c : Bool) → is_given before first ≡ c → all ≡ before ++ cond c (keys_after before xs) (first ∷ keys_after (before ++ first ∷ []) xs)
        → (all ≡ before ++ keys_after before xs → AreBegun (length all) (length before) left)
        → (all ≡ (before ++ first ∷ []) ++ keys_after (before ++ first ∷ []) xs → AreBegun (length all) (length (before ++ first ∷ [])) left)
        → IsNext (length before) (Some at) × AreBegun (length all) (begun_with (length before) (Some at)) left
    by true given is old new =
        let place : at ≡ position_or_len (bytes_eq first) before = ap (position_or_len (bytes_eq first)) is ∙ position_stays before (keys_after before xs) first given in
        let low = given_low before first given in (
          omega (arith, place, low),
          subst (λ b. AreBegun (length all) (cond b (length before + 1) (length before)) left) (sym (ne_eqb at (length before) (λ e. omega (arith, place, low, e)))) (old is),
        )
    by false fresh is old new =
        let split : all ≡ (before ++ first ∷ []) ++ keys_after (before ++ first ∷ []) xs = is ∙ sym (append_assoc before (first ∷ []) (keys_after (before ++ first ∷ []) xs)) in
        let place : at ≡ length before
        = ap (position_or_len (bytes_eq first)) split ∙ position_stays (before ++ first ∷ []) (keys_after (before ++ first ∷ []) xs) first (given_last before first) ∙ new_last before first fresh in (
          omega (arith, place),
          subst (λ b. AreBegun (length all) (cond b (length before + 1) (length before)) left) (sym (eq-eqb at (length before) place))
              (subst (λ n. AreBegun (length all) n left) (length-append before (first ∷ [])) (new split)),
        )
