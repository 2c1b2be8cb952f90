-- Numbers in base 16 (our profile).
use Rattle.std.specs.{Prelude.{ℕ, zero, suc, ◌/◌, ◌%◌, false, List, [], ◌∷◌, ◌++◌}, Fmt.{digit_glyph}}

-- the last so many digits of a number, in lower case
abbrev pub last_digits : ℕ → ℕ → List ℕ
last_digits zero x = []
last_digits (suc count) x = last_digits count (x / 16) ++ digit_glyph false (x % 16) ∷ []
