-- Texts that end at a NUL (our profile).
use Rattle.std.specs.{Prelude.{ℕ, eqb, nat_le, if◌then◌else◌, List, [], ◌∷◌, length, drop, Option, Some, None}, Option.{option_map}}

-- the bytes up to the first NUL, if there is one
abbrev pub text_within : List ℕ → Option (List ℕ)
text_within [] = None
text_within (x ∷ xs) = if eqb x 0 then Some [] else option_map (λ text. x ∷ text) (text_within xs)

-- the text that begins at a place
abbrev pub text_at : List ℕ → ℕ → Option (List ℕ)
text_at bytes at = text_within (drop at bytes)

-- a text of at most so many bytes
abbrev pub short : ℕ → Option (List ℕ) → Option (List ℕ)
short most None = None
short most (Some text) = if nat_le (length text) most then Some text else None
