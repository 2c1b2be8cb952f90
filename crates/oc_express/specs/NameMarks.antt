-- Marks of the names of sections (our profile).
use Rattle.std.specs.Prelude.{◌≡◌, ℕ, Bool, false, List, [], get_or, slice_index_or}

-- of each of these names, whether it passes the test
abbrev pub AreNamesMarked : (List ℕ → Bool) → List (List ℕ) → List Bool → Type 0
AreNamesMarked test names marks = (i : ℕ) → slice_index_or marks i false ≡ test (get_or names i [])
