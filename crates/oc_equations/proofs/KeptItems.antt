-- Items of a list of which some stay: by their new positions, and by the old ones.
use Rattle.std.proofs.Common.{◌≡◌, ℕ, zero, suc, ◌+◌, Bool, true, false, List, [], ◌∷◌, length, map, Option, Some, None, refl, sym, ◌∙◌, ap, arith}
use Rattle.std.specs.{Prelude.{slice_get}, List.{enumerate_from}}
use Rattle.std.proofs.lemmas.Option.{none-some}
use Rattle.oc_linking.specs.{Keeping.{kept_of}, Numbers.{or_else}}
use Rattle.oc_neutral.specs.Without.{new_position}
use Rattle.oc_neutral.proofs.KeptLists.{Stays}
use Rattle.oc_drop.specs.Steps.{first_in}
use Rattle.oc_equations.proofs.Firsts.{first_map}

module _ {X Y : Type 0} where
  -- what one function makes of those that stay, by their new positions, another makes of them by the old ones
  pub map_kept : (f g : ℕ × X → Y) (a b : ℕ) (stay : List Bool) (xs : List X) → length xs ≡ length stay
      → ((k i j : ℕ) (x : X) → a + new_position stay k ≡ i → b + k ≡ j → slice_get xs k ≡ Some x → Stays stay k → f (i, x) ≡ g (j, x))
      → map f (enumerate_from a (kept_of stay xs)) ≡ map g (kept_of stay (enumerate_from b xs))
  map_kept f g a b [] [] long same = refl
  map_kept f g a b [] (x ∷ xs) long same = absurd (omega (arith, long))
  map_kept f g a b (s ∷ stay) [] long same = absurd (omega (arith, long))
  map_kept f g a b (true ∷ stay) (x ∷ xs) long same =
      ap (λ y. y ∷ map f (enumerate_from (a + 1) (kept_of stay xs))) (same 0 a b x (omega arith) (omega arith) refl refl)
      ∙ ap (λ ys. g (b, x) ∷ ys) (map_kept f g (a + 1) (b + 1) stay xs (omega (arith, long)) (λ k i j y e h here is. same (suc k) i j y (omega (arith, e)) (omega (arith, h)) here is))
  map_kept f g a b (false ∷ stay) (x ∷ xs) long same =
      map_kept f g a (b + 1) stay xs (omega (arith, long)) (λ k i j y e h here is. same (suc k) i j y (omega (arith, e)) (omega (arith, h)) here is)

-- so of what is found first
pub first_kept : {X Y : Type 0} (f g : ℕ × X → Option Y) (a b : ℕ) (stay : List Bool) (xs : List X) → length xs ≡ length stay
    → ((k i j : ℕ) (x : X) → a + new_position stay k ≡ i → b + k ≡ j → slice_get xs k ≡ Some x → Stays stay k → f (i, x) ≡ g (j, x))
    → first_in f (enumerate_from a (kept_of stay xs)) ≡ first_in g (kept_of stay (enumerate_from b xs))
first_kept f g a b stay xs long same =
    sym (first_map (λ o. o) f (enumerate_from a (kept_of stay xs)))
    ∙ ap (first_in (λ o. o)) (map_kept f g a b stay xs long same)
    ∙ first_map (λ o. o) g (kept_of stay (enumerate_from b xs))

-- where those that go give nothing, the first of those that stay is the first of all
pub first_of_kept : {X Y : Type 0} (f : X → Option Y) (stay : List Bool) (xs : List X)
    → ((k : ℕ) (x : X) → slice_get xs k ≡ Some x → slice_get stay k ≡ Some false → f x ≡ None) → first_in f (kept_of stay xs) ≡ first_in f xs
first_of_kept f [] [] none = refl
first_of_kept f (s ∷ stay) [] none = refl
first_of_kept f [] (x ∷ xs) none = refl
first_of_kept f (true ∷ stay) (x ∷ xs) none = ap (or_else (f x)) (first_of_kept f stay xs (λ k y here goes. none (suc k) y here goes))
first_of_kept f (false ∷ stay) (x ∷ xs) none =
    first_of_kept f stay xs (λ k y here goes. none (suc k) y here goes) ∙ ap (λ o. or_else o (first_in f xs)) (sym (none 0 x refl refl))

-- those that stay, by themselves
pub kept_enumerated : {X : Type 0} (a : ℕ) (stay : List Bool) (xs : List X) → map (λ (x : ℕ × X). x.1) (kept_of stay (enumerate_from a xs)) ≡ kept_of stay xs
kept_enumerated a [] [] = refl
kept_enumerated a (s ∷ stay) [] = refl
kept_enumerated {X} a [] (x ∷ xs) = ap (λ ys. x ∷ ys) (all (a + 1) xs)
  where
    all : (a : ℕ) (xs : List X) → map (λ (x : ℕ × X). x.1) (enumerate_from a xs) ≡ xs
    all a [] = refl
    all a (x ∷ xs) = ap (λ ys. x ∷ ys) (all (a + 1) xs)
kept_enumerated a (true ∷ stay) (x ∷ xs) = ap (λ ys. x ∷ ys) (kept_enumerated (a + 1) stay xs)
kept_enumerated a (false ∷ stay) (x ∷ xs) = kept_enumerated (a + 1) stay xs

-- where each that stays is found at its old position, it is one of the list
pub kept_at : {X : Type 0} (a : ℕ) (stay : List Bool) (xs : List X) (i : ℕ) (x : ℕ × X) → length xs ≡ length stay → slice_get (kept_of stay (enumerate_from a xs)) i ≡ Some x
    → (k : ℕ) × (a + k ≡ x.0) × (slice_get xs k ≡ Some x.1) × Stays stay k × (new_position stay k ≡ i)
kept_at a [] [] i x long here = absurd (none-some x here)
kept_at a [] (y ∷ xs) i x long here = absurd (omega (arith, long))
kept_at a (s ∷ stay) [] i x long here = absurd (omega (arith, long))
kept_at {X} a (true ∷ stay) (y ∷ xs) zero x long here =
    (0, (let same : a ≡ x.0 = some_number (a, y) here in omega (arith, same)), some_item (a, y) here, refl, refl)
  where
    some_number : (z : ℕ × X) → Some z ≡ Some x → z.0 ≡ x.0
    some_number z e = cc

    some_item : (z : ℕ × X) → Some z ≡ Some x → Some z.1 ≡ Some x.1
    some_item z e = cc
kept_at a (true ∷ stay) (y ∷ xs) (suc i) x long here =
    let m = kept_at (a + 1) stay xs i x (omega (arith, long)) here in
    (suc m.0, (let e = m.1 in omega (arith, e)), m.2, m.3, ap suc m.4)
kept_at a (false ∷ stay) (y ∷ xs) i x long here =
    let m = kept_at (a + 1) stay xs i x (omega (arith, long)) here in
    (suc m.0, (let e = m.1 in omega (arith, e)), m.2, m.3, m.4)
