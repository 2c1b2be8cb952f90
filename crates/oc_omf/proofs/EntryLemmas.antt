-- Structures with their numbers, and one more at the end.
use Rattle.std.proofs.Common.{◌≡◌, ℕ, ◌+◌, ◌<◌, Bool, List, [], ◌∷◌, length, take, Some, refl, ◌∙◌, ap, arith}
use Rattle.std.specs.{Prelude.{◌||◌, false, get_or, slice_get}, List.{enumerate_from, list_any}}
use Rattle.std.proofs.lemmas.{List.Folds.{list_any-append}, List.FromFn.{get_or-enumerate_from, length-enumerate_from}}
use Rattle.std.proofs.lemmas.Option.{get_or_from_slice_get, slice_get-get_or, slice_get_within}
use Rattle.oc_linking.specs.FirstFault.{Condition, first_broken}
use Rattle.oc_neutral.specs.TargetSections.{each_of}
use Rattle.oc_neutral.proofs.FieldLists.{take_here}

-- a thing with its number
pub numbered_at : {X : Type 0} (xs : List X) (i : ℕ) (x : X) → slice_get xs i ≡ Some x → slice_get (enumerate_from 0 xs) i ≡ Some (i, x)
numbered_at xs i x here =
    let low : i < length xs = slice_get_within xs i x here in
    let long : i < length (enumerate_from 0 xs) = rw (length-enumerate_from 0 xs) low in
    let none_before : 0 + i ≡ i = omega arith in
    slice_get-get_or (enumerate_from 0 xs) i (i, x) long
    ∙ ap (λ y. Some y) (get_or-enumerate_from 0 xs i (i, x) low ∙ ap (λ k. (k, get_or xs i x)) none_before ∙ ap (λ y. (i, y)) (get_or_from_slice_get xs i x x here))

-- the conditions on it
pub conditions_at : {X : Type 0} (conditions : ℕ × X → List Condition) (xs : List X) (i : ℕ) (x : X) → slice_get xs i ≡ Some x
    → first_broken (each_of conditions (enumerate_from 0 xs) i) ≡ first_broken (conditions (i, x))
conditions_at conditions xs i x here = rw (numbered_at xs i x here) refl

-- a test of the things up to one
pub any_with : {X : Type 0} (test : X → Bool) (xs : List X) (i : ℕ) (x : X) → slice_get xs i ≡ Some x → list_any test (take (i + 1) xs) ≡ (list_any test (take i xs) || test x)
any_with test xs i x here = ap (list_any test) (take_here xs i x here) ∙ list_any-append test (take i xs) (x ∷ []) ∙ last (list_any test (take i xs)) (test x)
  where
    last : (a b : Bool) → (a || (b || false)) ≡ (a || b)
    last a b = grind (arith)
