-- Texts in files: the bytes from a place up to the first NUL.
use Rattle.std.specs.Prelude.{◌≡◌, ◌≢◌, ℕ, ◌+◌, ◌<◌, ◌≤◌, List, length, slice_index, slice_range}

-- there is no NUL at or after the place
abbrev pub HasNoTextAt : List ℕ → ℕ → Type 0
HasNoTextAt b at = (k : ℕ) → at ≤ k → k < length b → slice_index b k ≢ 0

-- the text at the place: the bytes from there on, none of which is NUL, and a NUL follows them
pub record IsTextAt (b : List ℕ) (at : ℕ) (text : List ℕ) : Type 0 where
  pub within : at + length text < length b
  pub bytes : text ≡ slice_range b at (at + length text)
  pub no_nul : (k : ℕ) → k < length text → slice_index text k ≢ 0
  pub ended : slice_index b (at + length text) ≡ 0
