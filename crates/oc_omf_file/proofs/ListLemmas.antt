-- Lists: what is taken and found in them.
use Rattle.std.proofs.Common.{◌≡◌, ℕ, zero, suc, ◌<◌, Bool, true, false, cond, List, [], ◌∷◌, ◌++◌, take, Some, None, refl, sym, ◌∙◌, ap, arith}
use Rattle.std.specs.{Prelude.{slice_get, find}, List.{AllByRecursion}}
use Rattle.std.proofs.lemmas.{Bool.{true≢false}, Option.{none-some, same_Some}}

-- ... what is found

pub find_fails : {X : Type 0} (test : X → Bool) (xs : List X) → ((j : ℕ) (x : X) → slice_get xs j ≡ Some x → test x ≡ false) → find test xs ≡ None
find_fails test [] none = refl
find_fails test (x ∷ xs) none = ap (λ b. cond b (Some x) (find test xs)) (none 0 x refl) ∙ find_fails test xs (λ j y h. none (suc j) y h)

-- a member that passes, where each that passes is that one
pub find_only : {X : Type 0} (test : X → Bool) (xs : List X) (k : ℕ) (x : X) → slice_get xs k ≡ Some x → test x ≡ true
    → ((j : ℕ) (y : X) → slice_get xs j ≡ Some y → test y ≡ true → y ≡ x) → find test xs ≡ Some x
find_only test [] k x here passes only = absurd (none-some x here)
find_only {X} test (y ∷ xs) k x here passes only = by (λ j h. find_only test xs j x h passes (λ i z g t. only (suc i) z g t)) (test y) refl k here
  where
    by : ((j : ℕ) → slice_get xs j ≡ Some x → find test xs ≡ Some x) → (b : Bool) → test y ≡ b → (k : ℕ) → slice_get (y ∷ xs) k ≡ Some x → cond b (Some y) (find test xs) ≡ Some x
    by later true e k h = ap (λ (z : X). Some z) (only 0 y refl e)
    by later false e zero h = absurd (true≢false (sym passes ∙ ap test (sym (same_Some y x h)) ∙ e))
    by later false e (suc k) h = later k h

-- a member that passes is found, or another
pub find_there : {X : Type 0} (test : X → Bool) (xs : List X) (k : ℕ) (x : X) → slice_get xs k ≡ Some x → test x ≡ true
    → (j : ℕ) × (y : X) × (slice_get xs j ≡ Some y) × (test y ≡ true) × (find test xs ≡ Some y)
find_there test [] k x h passes = absurd (none-some x h)
find_there {X} test (y ∷ xs) k x h passes = by (λ j g. find_there test xs j x g passes) (test y) refl k h
  where
    by : ((j : ℕ) → slice_get xs j ≡ Some x → (j : ℕ) × (y : X) × (slice_get xs j ≡ Some y) × (test y ≡ true) × (find test xs ≡ Some y)) → (b : Bool)
        → test y ≡ b → (k : ℕ) → slice_get (y ∷ xs) k ≡ Some x
        → (j : ℕ) × (z : X) × (slice_get (y ∷ xs) j ≡ Some z) × (test z ≡ true) × (cond b (Some y) (find test xs) ≡ Some z)
    by later true e k h = (0, y, refl, e, refl)
    by later false e zero h = absurd (true≢false (sym passes ∙ ap test (sym (same_Some y x h)) ∙ e))
    by later false e (suc k) h = let m = later k h in (suc m.0, m.1, m.2, m.3, m.4)

-- ... the first elements

pub of_take : {X : Type 0} (i : ℕ) (xs : List X) (j : ℕ) (x : X) → slice_get (take i xs) j ≡ Some x → (j < i) × (slice_get xs j ≡ Some x)
of_take zero xs j x h = absurd (none-some x h)
of_take (suc i) [] j x h = absurd (none-some x h)
of_take (suc i) (y ∷ xs) zero x h = (omega arith, h)
of_take (suc i) (y ∷ xs) (suc j) x h = let m = of_take i xs j x h in let l = m.0 in (omega (arith, l), m.1)

pub member_take : {X : Type 0} (q : ℕ) (xs : List X) (i : ℕ) (x : X) → i < q → slice_get xs i ≡ Some x → slice_get (take q xs) i ≡ Some x
member_take zero xs i x l h = absurd (omega (arith, l))
member_take (suc q) [] i x l h = absurd (none-some x h)
member_take (suc q) (y ∷ xs) zero x l h = h
member_take (suc q) (y ∷ xs) (suc i) x l h = member_take q xs i x (omega (arith, l)) h

-- what holds of both lists
pub all_both : {X : Type 0} (P : X → Type 0) (xs ys : List X) → AllByRecursion P xs → AllByRecursion P ys → AllByRecursion P (xs ++ ys)
all_both P [] ys a b = b
all_both P (x ∷ xs) ys a b = (a.0, all_both P xs ys a.1 b)
