-- Tables of entries of one size (our profile).
use Rattle.std.specs.Prelude.{ℕ, zero, suc, ◌+◌, List, [], ◌∷◌}

-- n entries of w bytes from a place of a file on, each as `read` reads it there
abbrev pub rows : {X : Type 0} → (List ℕ → ℕ → X) → ℕ → List ℕ → ℕ → ℕ → List X
rows read w file at zero = []
rows read w file at (suc n) = read file at ∷ rows read w file (at + w) n
