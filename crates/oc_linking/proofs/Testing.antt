-- What passes a test, and numbers and names that are compared.
use Rattle.std.proofs.Common.{◌≡◌, ℕ, zero, suc, ◌≤◌, ◌||◌, Bool, true, false, cond, List, [], ◌∷◌, Some, refl, sym, ◌∙◌, ap, arith}
use Rattle.std.specs.{Prelude.{slice_get, find, nat_eq, nat_lt, bytes_eq}, List.{list_any}}
use Rattle.std.proofs.lemmas.{Bool.{true≢false}, Bool.Decides.{nat_tests}, Option.{none-some, same_Some}, Slice.Eq.{bytes_eq-Decides}}

-- one of a list passes
pub any_passes : {X : Type 0} (test : X → Bool) (xs : List X) → list_any test xs ≡ true → (k : ℕ) × (x : X) × (slice_get xs k ≡ Some x) × (test x ≡ true)
any_passes test [] e = absurd (true≢false (sym e))
any_passes {X} test (x ∷ xs) e = by (test x) refl (any_passes test xs) e
  where
    by : (b : Bool) → test x ≡ b → (list_any test xs ≡ true → (k : ℕ) × (y : X) × (slice_get xs k ≡ Some y) × (test y ≡ true)) → (b || list_any test xs) ≡ true
        → (k : ℕ) × (y : X) × (slice_get (x ∷ xs) k ≡ Some y) × (test y ≡ true)
    by true h rest e = (0, x, refl, h)
    by false h rest e = let r = rest e in (suc r.0, r.1, r.2, r.3)

-- what a search finds is there, and passes
pub found_there : {X : Type 0} (test : X → Bool) (xs : List X) (x : X) → find test xs ≡ Some x → (k : ℕ) × (slice_get xs k ≡ Some x) × (test x ≡ true)
found_there test [] x e = absurd (none-some x e)
found_there {X} test (y ∷ xs) x e = by (test y) refl (λ h. found_there test xs x h) e
  where
    by : (b : Bool) → test y ≡ b → (find test xs ≡ Some x → (k : ℕ) × (slice_get xs k ≡ Some x) × (test x ≡ true)) → cond b (Some y) (find test xs) ≡ Some x
        → (k : ℕ) × (slice_get (y ∷ xs) k ≡ Some x) × (test x ≡ true)
    by true t rest h = (0, h, ap test (sym (same_Some y x h)) ∙ t)
    by false t rest h = let r = rest h in (suc r.0, r.1, r.2)

-- what is not below
pub not_below : (a b : ℕ) → nat_lt a b ≡ false → b ≤ a
not_below a b e = grind (arith, nat_tests)

-- numbers are compared either way
pub either_way : (a b : ℕ) → nat_eq a b ≡ nat_eq b a
either_way a b = by (nat_eq a b) (nat_eq b a) refl refl
  where
    by : (s t : Bool) → nat_eq a b ≡ s → nat_eq b a ≡ t → s ≡ t
    by s t e f = grind arith

-- a name is itself
pub bytes_same : (name : List ℕ) → bytes_eq name name ≡ true
bytes_same name = (bytes_eq-Decides name name).1 refl
