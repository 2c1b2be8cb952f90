-- What holds of each part of a list, and stages without faults.
use Rattle.std.proofs.Common.{◌≡◌, ℕ, zero, suc, ◌+◌, ◌*◌, ◌<◌, ◌≤◌, List, [], ◌∷◌, ◌++◌, length, get_or, map, Option, Some, None, refl, ◌∙◌, ap, inl, inr, ◌⊎◌, arith}
use Rattle.std.specs.{Prelude.{slice_get, sum_by}, List.{AllByRecursion, range_with_len}, Option.{option_map_or}}
use Rattle.std.proofs.lemmas.List.Sums.{sum_by-cons}
use Rattle.oc_linking.specs.{FirstFault.{Condition, first_broken}, Numbers.{or_else, first_upto}}

-- of two lists, one behind the other
pub all_joined : {X : Type 0} (P : X → Type 0) (xs ys : List X) → AllByRecursion P xs → AllByRecursion P ys → AllByRecursion P (xs ++ ys)
all_joined P [] ys a b = b
all_joined P (x ∷ xs) ys a b = (a.0, all_joined P xs ys a.1 b)

-- of what it makes of numbers
pub all_range : {X : Type 0} (P : X → Type 0) (f : ℕ → X) (a n : ℕ) → ((i : ℕ) → i < a + n → P (f i)) → AllByRecursion P (map f (range_with_len a n))
all_range P f a zero each = tt
all_range P f a (suc n) each = (each a (omega arith), all_range P f (a + 1) n (λ i l. each i (omega (arith, l))))

-- what holds of all and of what is given holds of what stands anywhere
pub all_get_or : {X : Type 0} (P : X → Type 0) (xs : List X) (k : ℕ) (d : X) → AllByRecursion P xs → P d → P (get_or xs k d)
all_get_or P [] k d a p = p
all_get_or P (x ∷ xs) zero d a p = a.0
all_get_or P (x ∷ xs) (suc k) d a p = all_get_or P xs k d a.1 p

-- a sum of what is never above 7
pub sum_range : {X : Type 0} (g : X → ℕ) (f : ℕ → X) (a n : ℕ) → ((i : ℕ) → i < a + n → g (f i) ≤ 7) → sum_by g (map f (range_with_len a n)) ≤ 7 * n
sum_range g f a zero each = omega arith
sum_range g f a (suc n) each =
    let one : g (f a) ≤ 7 = each a (omega arith) in
    let rest : sum_by g (map f (range_with_len (a + 1) n)) ≤ 7 * n = sum_range g f (a + 1) n (λ i l. each i (omega (arith, l))) in
    let both : sum_by g (f a ∷ map f (range_with_len (a + 1) n)) ≡ g (f a) + sum_by g (map f (range_with_len (a + 1) n)) = sum_by-cons g (f a) (map f (range_with_len (a + 1) n)) in
    omega (arith, one, rest, both)

-- what stands at a position of two lists
pub joined_get : {X : Type 0} (xs ys : List X) (k : ℕ) (x : X) → slice_get (xs ++ ys) k ≡ Some x → (slice_get xs k ≡ Some x) ⊎ ((j : ℕ) × (k ≡ length xs + j) × (slice_get ys j ≡ Some x))
joined_get [] ys k x h = let e : k ≡ 0 + k = omega arith in inr (k, e, h)
joined_get (y ∷ xs) ys zero x h = inl h
joined_get (y ∷ xs) ys (suc k) x h =
    elim (joined_get xs ys k x h) [
      | inl a ↦ inl a
      | inr b ↦ let e : k ≡ length xs + b.0 = b.1 in let f : suc k ≡ suc (length xs) + b.0 = omega (arith, e) in inr (b.0, f, b.2)
    ]

-- ... stages

-- where none is there, none is first
pub none_upto : {X : Type 0} (item : ℕ → Option X) (n : ℕ) → ((i : ℕ) → item i ≡ None) → first_upto item n ≡ None
none_upto item zero each = refl
none_upto item (suc n) each = ap (λ o. or_else o (item n)) (none_upto item n each) ∙ each n

-- where each meets its conditions, none breaks one
pub none_broken : {X : Type 0} (conditions : X → List Condition) (xs : List X) → AllByRecursion (λ x. first_broken (conditions x) ≡ None) xs
    → (i : ℕ) → first_broken (option_map_or conditions (slice_get xs i) []) ≡ None
none_broken conditions [] a i = refl
none_broken conditions (x ∷ xs) a zero = a.0
none_broken conditions (x ∷ xs) a (suc i) = none_broken conditions xs a.1 i
