-- One section more, while the keys of groups are gathered: what a reader that adds groups as they begin cites.
use Rattle.std.proofs.Common.{◌≡◌, ℕ, ◌+◌, Bool, true, false, ◌||◌, cond, List, [], ◌∷◌, ◌++◌, append_assoc, append-nil, Option, Some, None, refl, sym, ◌∙◌, ap}
use Rattle.std.specs.{Prelude.{bytes_eq, not, if◌then◌else◌}, List.{list_any, position_or_len}}
use Rattle.std.proofs.lemmas.Bool.{true≢false}
use Rattle.oc_base.specs.Strings.{is_given}
use Rattle.oc_shows.specs.Computed.{keys_after}

-- a section in no group begins none
pub keys_none : (before : List (List ℕ)) (xs : List (Option (List ℕ))) → keys_after before (xs ++ None ∷ []) ≡ keys_after before xs
keys_none before [] = refl
keys_none before (None ∷ xs) = keys_none before xs
keys_none before (Some k ∷ xs) = by (is_given before k) (keys_none before xs) (keys_none (before ++ k ∷ []) xs)
  where
    by : (c : Bool) → keys_after before (xs ++ None ∷ []) ≡ keys_after before xs → keys_after (before ++ k ∷ []) (xs ++ None ∷ []) ≡ keys_after (before ++ k ∷ []) xs
        → cond c (keys_after before (xs ++ None ∷ [])) (k ∷ keys_after (before ++ k ∷ []) (xs ++ None ∷ [])) ≡ cond c (keys_after before xs) (k ∷ keys_after (before ++ k ∷ []) xs)
    by true old new = old
    by false old new = ap (λ keys. k ∷ keys) new

-- one in a group begins it, where its key does not stand among those before
pub keys_some : (before : List (List ℕ)) (xs : List (Option (List ℕ))) (key : List ℕ)
    → keys_after before (xs ++ Some key ∷ []) ≡ keys_after before xs ++ (if is_given (before ++ keys_after before xs) key then [] else key ∷ [])
keys_some before [] key = ap (λ (keys : List (List ℕ)). if is_given keys key then [] else key ∷ []) (sym (append-nil before))
keys_some before (None ∷ xs) key = keys_some before xs key
keys_some before (Some k ∷ xs) key = by (is_given before k) (keys_some before xs key) (keys_some (before ++ k ∷ []) xs key)
  where
    by : (c : Bool)
        → keys_after before (xs ++ Some key ∷ []) ≡ keys_after before xs ++ (if is_given (before ++ keys_after before xs) key then [] else key ∷ [])
        → keys_after (before ++ k ∷ []) (xs ++ Some key ∷ []) ≡ keys_after (before ++ k ∷ []) xs ++ (if is_given ((before ++ k ∷ []) ++ keys_after (before ++ k ∷ []) xs) key then [] else key ∷ [])
        → cond c (keys_after before (xs ++ Some key ∷ [])) (k ∷ keys_after (before ++ k ∷ []) (xs ++ Some key ∷ []))
        ≡ cond c (keys_after before xs) (k ∷ keys_after (before ++ k ∷ []) xs)
        ++ (if is_given (before ++ cond c (keys_after before xs) (k ∷ keys_after (before ++ k ∷ []) xs)) key then [] else key ∷ [])
    by true old new = old
    by false old new =
        ap (λ keys. k ∷ keys) new
        ∙ ap (λ (keys : List (List ℕ)). k ∷ keys_after (before ++ k ∷ []) xs ++ (if is_given keys key then [] else key ∷ [])) (append_assoc before (k ∷ []) (keys_after (before ++ k ∷ []) xs))

-- the position of a key that stands there stays, whatever keys begin behind it
pub position_stays : (keys more : List (List ℕ)) (key : List ℕ) → is_given keys key ≡ true → position_or_len (bytes_eq key) (keys ++ more) ≡ position_or_len (bytes_eq key) keys
position_stays [] more key given = absurd (true≢false (sym given))
position_stays (k ∷ keys) more key given = by (bytes_eq key k) given (position_stays keys more key)
  where
    by : (c : Bool) → (c || list_any (bytes_eq key) keys) ≡ true → (list_any (bytes_eq key) keys ≡ true → position_or_len (bytes_eq key) (keys ++ more) ≡ position_or_len (bytes_eq key) keys)
        → cond (not c) (1 + position_or_len (bytes_eq key) (keys ++ more)) 0 ≡ cond (not c) (1 + position_or_len (bytes_eq key) keys) 0
    by true e rest = refl
    by false e rest = ap (λ n. 1 + n) (rest e)
