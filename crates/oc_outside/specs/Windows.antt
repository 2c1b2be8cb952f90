-- Windows: any bytes of a file, put into the start of a buffer (our profile).
use Rattle.std.specs.Prelude.{◌≡◌, ℕ, ◌-◌, List, ◌++◌, length, take, drop, min}

-- n bytes of a file from a place on were put into the start of a buffer, as many as both have; the rest of it stays
pub record IsFilled (file : List ℕ) (from : ℕ) (old new : List ℕ) (n : ℕ) : Type 0 where
  pub count : n ≡ min (length old) (length file - from)
  pub bytes : new ≡ take n (drop from file) ++ drop n old
