-- Tables as rows of one size.
use Rattle.std.proofs.Common.{◌≡◌, ℕ, List, [], ◌∷◌, length, map}
use Rattle.oc_shelf.specs.Writing.Parts.{HaveSize}

-- each row of a table has so many bytes
pub rows_sized : {X : Type 0} (f : X → List ℕ) (w : ℕ) → ((x : X) → length (f x) ≡ w) → (xs : List X) → HaveSize w (map f xs)
rows_sized f w each [] = tt
rows_sized f w each (x ∷ xs) = (each x, rows_sized f w each xs)
