-- The two digits of a byte.
use Rattle.std.proofs.Common.{◌≡◌, ℕ, ◌-◌, ◌/◌, ◌%◌, ◌<◌, false, inl, inr, List, [], ◌∷◌, ◌++◌, length, sym, ◌∙◌, ap, arith}
use Rattle.std.specs.{Prelude.{replicate}, Fmt.{digit_glyph}}
use Rattle.std.proofs.lemmas.{Bool.{cases_lt}, List.{append_assoc}, Fmt.{hex_one_digit, hex_two_digits}}
use Rattle.oc_dump.specs.Lines.{hex}

-- a digit
abbrev pub digit : ℕ → ℕ
digit d = digit_glyph false d

-- digits after zeros that bring them to two
padded : (xs : List ℕ) → List ℕ
padded xs = replicate (2 - length xs) 48 ++ xs

one_padded : (d : ℕ) → padded (d ∷ []) ≡ 48 ∷ d ∷ []
unfolding padded
one_padded d = let e : 2 - length (d ∷ []) ≡ 1 = omega arith in ap (λ k. replicate k 48 ++ d ∷ []) e

two_padded : (c d : ℕ) → padded (c ∷ d ∷ []) ≡ c ∷ d ∷ []
unfolding padded
two_padded c d = let e : 2 - length (c ∷ d ∷ []) ≡ 0 = omega arith in ap (λ k. replicate k 48 ++ c ∷ d ∷ []) e

pub hex_of_byte : (b : ℕ) → b < 256 → hex 2 b ≡ digit (b / 16) ∷ digit (b % 16) ∷ []
unfolding hex padded
hex_of_byte b small = elim (cases_lt b 16) [
  | inl low ↦
      let none : b / 16 ≡ 0 = omega (arith, low) in
      let own : b % 16 ≡ b = omega (arith, low) in
      ap padded (hex_one_digit false b low) ∙ one_padded (digit b) ∙ ap (λ d. digit d ∷ digit b ∷ []) (sym none) ∙ ap (λ d. digit (b / 16) ∷ digit d ∷ []) (sym own)
  | inr high ↦ ap padded (hex_two_digits false b high small) ∙ two_padded (digit (b / 16)) (digit (b % 16))
]

-- two digits put after a text
pub two_digits : (old : List ℕ) (b c d : ℕ) → b < 256 → c ≡ digit (b / 16) → d ≡ digit (b % 16) → (old ++ c ∷ []) ++ d ∷ [] ≡ old ++ hex 2 b
two_digits old b c d small is own = append_assoc old (c ∷ []) (d ∷ []) ∙ ap (λ x. old ++ x ∷ d ∷ []) is ∙ ap (λ x. old ++ digit (b / 16) ∷ x ∷ []) own ∙ ap (λ xs. old ++ xs) (sym (hex_of_byte b small))
