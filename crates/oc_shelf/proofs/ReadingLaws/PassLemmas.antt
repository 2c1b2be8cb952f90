-- What is found in a list whose items all pass a test.
use Rattle.std.proofs.Common.{◌≡◌, Bool, true, false, cond, List, [], ◌∷◌, Some, refl, sym, subst}
use Rattle.std.specs.Prelude.{◌&&◌, find}
use Rattle.std.proofs.lemmas.{Bool.{true≢false}, Option.{none-some, same_Some}}

abbrev pub all_pass : {X : Type 0} → (X → Bool) → List X → Bool
all_pass test [] = true
all_pass test (x ∷ xs) = test x && all_pass test xs

pub found_passes : {X : Type 0} (test key : X → Bool) (xs : List X) (x : X) → all_pass test xs ≡ true → find key xs ≡ Some x → test x ≡ true
found_passes test key [] x all e = absurd (none-some x e)
found_passes {X} test key (y ∷ xs) x all e = by (test y) (key y) refl all e (found_passes test key xs x)
  where
    by : (a b : Bool) → test y ≡ a → (a && all_pass test xs) ≡ true → cond b (Some y) (find key xs) ≡ Some x → (all_pass test xs ≡ true → find key xs ≡ Some x → test x ≡ true) → test x ≡ true
    by true true h all e rest = subst (λ (z : X). test z ≡ true) (same_Some y x e) h
    by true false h all e rest = rest all e
    by false b h all e rest = absurd (true≢false (sym all))
