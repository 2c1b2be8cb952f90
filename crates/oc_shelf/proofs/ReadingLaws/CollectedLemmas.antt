-- Lists that are gathered entry by entry.
use Rattle.std.proofs.Common.{◌≡◌, ℕ, zero, suc, ◌+◌, ◌<◌, ◌≤◌, ◌⊎◌, inl, inr, List, [], ◌∷◌, ◌++◌, length, map, Option, Some, None, refl, ◌∙◌, ap, subst, arith, length-append, sym}
use Rattle.std.specs.{Prelude.{slice_get, filter_map}, List.{AllByRecursion, sum_by, cons_option, enumerate_from}}
use Rattle.std.specs.Option.{option_map, option_map_or, option_and_then}
use Rattle.std.proofs.lemmas.{Bool.{cases_eq, cases_lt}, Option.{none-some, same_Some}, List.Sums.{sum_by-append, sum_by-cons}}
use Rattle.oc_shelf.specs.{Reading.Collected.{with_option, collected}, Reading.Sums.{sum_upto}}

module _ {X : Type 0} where
  -- the last of a list with one more
  pub last_at : (xs : List X) (y : X) → slice_get (xs ++ y ∷ []) (length xs) ≡ Some y
  last_at [] y = refl
  last_at (x ∷ xs) y = last_at xs y

  pub front_at : (xs : List X) (y : X) (k : ℕ) → k < length xs → slice_get (xs ++ y ∷ []) k ≡ slice_get xs k
  front_at [] y k l = absurd (omega arith)
  front_at (x ∷ xs) y zero l = refl
  front_at (x ∷ xs) y (suc k) l = front_at xs y k (omega arith)

  pub front_with : (xs : List X) (o : Option X) (k : ℕ) → k < length xs → slice_get (with_option xs o) k ≡ slice_get xs k
  front_with xs None k l = refl
  front_with xs (Some y) k l = front_at xs y k l

  pub all_with : (P : X → Type 0) (xs : List X) (o : Option X) → AllByRecursion P xs → ((x : X) → o ≡ Some x → P x) → AllByRecursion P (with_option xs o)
  all_with P xs None all is = all
  all_with P [] (Some y) all is = (is y refl, tt)
  all_with P (x ∷ xs) (Some y) all is = (all.0, all_with P xs (Some y) all.1 is)

module _ {X : Type 0} (item : ℕ → Option X) where
  -- one entry more
  pub collected-more : (i : ℕ) → collected item (i + 1) ≡ with_option (collected item i) (item i)
  collected-more i = let e : i + 1 ≡ suc i = omega arith in rw e refl

  pub collected-none : (i : ℕ) → item i ≡ None → collected item (i + 1) ≡ collected item i
  collected-none i none = collected-more i ∙ ap (with_option (collected item i)) none

  pub collected-some : (i : ℕ) (x : X) → item i ≡ Some x → collected item (i + 1) ≡ collected item i ++ x ∷ []
  collected-some i x some = collected-more i ∙ ap (with_option (collected item i)) some

  length-suc : (n : ℕ) → length (collected item n) ≤ length (collected item (suc n))
  length-suc n = elim (item n) as (λ o. length (collected item n) ≤ length (with_option (collected item n) o)) [
    | None ↦ omega arith
    | Some x ↦ omega (arith, length-append (collected item n) (x ∷ []))
  ]

  -- as many items as entries at most
  pub length-collected : (n : ℕ) → length (collected item n) ≤ n
  length-collected zero = omega arith
  length-collected (suc n) = elim (item n) as (λ o. length (with_option (collected item n) o) ≤ suc n) [
    | None ↦ omega (arith, length-collected n)
    | Some x ↦ omega (arith, length-collected n, length-append (collected item n) (x ∷ []))
  ]

  -- more entries give no fewer items
  pub length-rises : (k n : ℕ) → k ≤ n → length (collected item k) ≤ length (collected item n)
  length-rises k zero l = let e : k ≡ zero = omega arith in rw e (omega arith)
  length-rises k (suc n) l = elim (cases_eq k (suc n)) [
    | inl same ↦ rw same (omega arith)
    | inr other ↦ let before = length-rises k n (omega arith) in omega (arith, before, length-suc n)
  ]

  -- an entry that gives an item stands behind those before it
  pub length-step : (k n : ℕ) (x : X) → item k ≡ Some x → k < n → length (collected item k) < length (collected item n)
  length-step k n x some l =
      let e : length (collected item (k + 1)) ≡ length (collected item k) + 1 = ap length (collected-some k x some) ∙ length-append (collected item k) (x ∷ []) in
      let up = length-rises (k + 1) n (omega arith) in
      omega (arith, e, up)

  -- an entry's item stands at its position
  pub collected-at : (k n : ℕ) (x : X) → item k ≡ Some x → k < n → slice_get (collected item n) (length (collected item k)) ≡ Some x
  collected-at k zero x some l = absurd (omega arith)
  collected-at k (suc n) x some l = elim (cases_eq k n) [
    | inl same ↦ let here : item n ≡ Some x = subst (λ j. item j ≡ Some x) same some in
        rw (same, here) (last_at (collected item n) x)
    | inr other ↦ front_with (collected item n) (item n) (length (collected item k)) (length-step k n x some (omega arith)) ∙ collected-at k n x some (omega arith)
  ]

  -- and each item is that of an entry
  pub record IsFrom (n p : ℕ) (x : X) : Type 0 where
    pub k : ℕ
    pub below : k < n
    pub is : item k ≡ Some x
    pub at : length (collected item k) ≡ p

  from_with : (n p : ℕ) (x : X) (xs : List X) (y : X) → slice_get (xs ++ y ∷ []) p ≡ Some x → (slice_get xs p ≡ Some x) ⊎ ((y ≡ x) × (length xs ≡ p))
  from_with n zero x [] y here = inr (same_Some y x here, refl)
  from_with n (suc q) x [] y here = absurd (none-some x here)
  from_with n zero x (z ∷ xs) y here = inl here
  from_with n (suc q) x (z ∷ xs) y here = elim (from_with n q x xs y here) [ inl old ↦ inl old | inr new ↦ inr (new.0, ap (λ (k : ℕ). suc k) new.1) ]

  from_more : (n p : ℕ) (x : X) → IsFrom n p x → IsFrom (suc n) p x
  from_more n p x m = record { k = m.k; below = let l = m.below in omega (arith, l); is = m.is; at = m.at }

  from_last : (n p : ℕ) (x : X) (o : Option X) → item n ≡ o → slice_get (with_option (collected item n) o) p ≡ Some x → (slice_get (collected item n) p ≡ Some x → IsFrom n p x) → IsFrom (suc n) p x
  from_last n p x None e here before = from_more n p x (before here)
  from_last n p x (Some y) e here before = elim (from_with n p x (collected item n) y here) [
    | inl old ↦ from_more n p x (before old)
    | inr new ↦ record { k = n; below = omega arith; is = e ∙ ap (λ (z : X). Some z) new.0; at = new.1 }
  ]

  pub collected-from : (n p : ℕ) (x : X) → slice_get (collected item n) p ≡ Some x → IsFrom n p x
  collected-from zero p x here = absurd (none-some x here)
  collected-from (suc n) p x here = from_last n p x (item n) refl here (λ h. collected-from n p x h)

  -- what holds of each item holds of all
  pub collected-all : (P : X → Type 0) (n : ℕ) → ((k : ℕ) (x : X) → k < n → item k ≡ Some x → P x) → AllByRecursion P (collected item n)
  collected-all P zero each = tt
  collected-all P (suc n) each = all_with P (collected item n) (item n) (collected-all P n (λ k x l. each k x (omega arith))) (λ x. each n x (omega arith))

  -- a sum over the items is one over the entries
  pub collected-sum : (f : X → ℕ) (n : ℕ) → sum_by f (collected item n) ≡ sum_upto (λ k. option_map_or f (item k) 0) n
  collected-sum f zero = refl
  collected-sum f (suc n) = elim (item n) as (λ o. sum_by f (with_option (collected item n) o) ≡ sum_upto (λ k. option_map_or f (item k) 0) n + option_map_or f o 0) [
    | None ↦ omega (arith, collected-sum f n)
    | Some x ↦ omega (arith, collected-sum f n, sum_by-append f (collected item n) (x ∷ []), sum_by-cons f x [])
  ]

-- what is made of items
pub collected-map : {X Y : Type 0} (f : X → Y) (item : ℕ → Option X) (n : ℕ) → map f (collected item n) ≡ collected (λ k. option_map f (item k)) n
collected-map f item zero = refl
collected-map {X} {Y} f item (suc n) = with_map (collected item n) (item n) ∙ ap (λ ys. with_option ys (option_map f (item n))) (collected-map f item n)
  where
    with_map : (xs : List X) (o : Option X) → map {B = Y} f (with_option xs o) ≡ with_option (map f xs) (option_map f o)
    with_map xs None = refl
    with_map [] (Some y) = refl
    with_map (x ∷ xs) (Some y) = ap (λ ys. f x ∷ ys) (with_map xs (Some y))

-- what is made of each item
pub all_mapped : {X Y : Type 0} (P : Y → Type 0) (g : X → Y) (xs : List X) → ((k : ℕ) (x : X) → slice_get xs k ≡ Some x → P (g x)) → AllByRecursion P (map g xs)
all_mapped P g [] each = tt
all_mapped P g (x ∷ xs) each = (each 0 x refl, all_mapped P g xs (λ k. each (suc k)))

-- equal items give equal lists
pub collected-same : {X : Type 0} (f g : ℕ → Option X) (n : ℕ) → ((k : ℕ) → k < n → f k ≡ g k) → collected f n ≡ collected g n
collected-same f g zero same = refl
collected-same f g (suc n) same = rw (collected-same f g n (λ k l. same k (omega arith)), same n (omega arith)) refl

-- items that stand in order come of entries in order
pub collected-ordered : {X : Type 0} (item : ℕ → Option X) (n i j : ℕ) (x y : X) (a : IsFrom item n i x) (b : IsFrom item n j y) → i < j → a.k < b.k
collected-ordered item n i j x y a b l = elim (cases_lt a.k b.k) [
  | inl before ↦ before
  | inr from ↦
      let rises = length-rises item b.k a.k from in
      let low = a.at in
      let high = b.at in
      absurd (omega (arith, rises, low, high, l))
]

-- ... lists that are filtered

-- one more, before or behind
front_back : {Y : Type 0} (o p : Option Y) (ys : List Y) → with_option (cons_option o ys) p ≡ cons_option o (with_option ys p)
front_back None p ys = refl
front_back (Some y) None ys = refl
front_back (Some y) (Some z) ys = refl

alone : {Y : Type 0} (o : Option Y) → with_option [] o ≡ cons_option o []
alone None = refl
alone (Some y) = refl

collected_front : {Y : Type 0} (item : ℕ → Option Y) (n : ℕ) → collected item (suc n) ≡ cons_option (item 0) (collected (λ i. item (suc i)) n)
collected_front item zero = alone (item 0)
collected_front item (suc n) =
    ap (λ ys. with_option ys (item (suc n))) (collected_front item n) ∙ front_back (item 0) (item (suc n)) (collected (λ i. item (suc i)) n)

pub filtered : {X Y : Type 0} (f : X → Option Y) (xs : List X) → filter_map f xs ≡ collected (λ i. option_and_then f (slice_get xs i)) (length xs)
filtered f [] = refl
filtered f (x ∷ xs) = ap (cons_option (f x)) (filtered f xs) ∙ sym (collected_front (λ i. option_and_then f (slice_get (x ∷ xs) i)) (length xs))

pub numbered : {X Y : Type 0} (f : ℕ × X → Option Y) (n : ℕ) (xs : List X)
    → filter_map f (enumerate_from n xs) ≡ collected (λ i. option_and_then (λ x. f (i + n, x)) (slice_get xs i)) (length xs)
numbered f n [] = refl
numbered {X} f n (x ∷ xs) =
    ap (cons_option (f (n, x)))
    (numbered f (n + 1) xs
    ∙ collected-same (λ i. option_and_then (λ x. f (i + (n + 1), x)) (slice_get xs i)) (λ i. option_and_then (λ x. f (suc i + n, x)) (slice_get xs i)) (length xs)
    (λ i low. let one : i + (n + 1) ≡ suc i + n = omega arith in ap (λ (k : ℕ). option_and_then (λ (x : X). f (k, x)) (slice_get xs i)) one))
    ∙ (let none : n ≡ 0 + n = omega arith in ap (λ (k : ℕ). cons_option (f (k, x)) (collected (λ i. option_and_then (λ x. f (suc i + n, x)) (slice_get xs i)) (length xs))) none)
    ∙ sym (collected_front (λ i. option_and_then (λ x. f (i + n, x)) (slice_get (x ∷ xs) i)) (length xs))
