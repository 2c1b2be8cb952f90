-- Decimals that are no count.
use Rattle.std.proofs.Common.{◌≡◌, ℕ, ◌^◌, ◌<◌, Bool, true, false, ◌&&◌, List, [], ◌∷◌, length, get_or, refl, subst, arith}
use Rattle.std.specs.{Prelude.{None, Result, Err, nat_lt, nat_le}, Str.{all_ascii_digits}, Str.Parse.{digits_value, ParsesUnsigned}}
use Rattle.std.proofs.lemmas.{Bool.{false≢true}, Bool.Decides.{nat_tests}, Str.Parse.{IsNumeralModel, numerals_by_value, tells_all_ascii_digits, parse_digits}}
use Rattle.oc_words.specs.Texts.{is_decimal, count_of}

-- texts of ASCII digits are numerals
digits : IsNumeralModel (λ ds. all_ascii_digits ds ≡ true) (digits_value 10)
digits = numerals_by_value _ tells_all_ascii_digits

-- both tests hold
both : (a b : Bool) → a && b ≡ true → (a ≡ true) × (b ≡ true)
both true b e = (refl, e)
both false b e = absurd (false≢true e)

-- a decimal is not empty
not_empty : (text : List ℕ) → nat_lt 48 (get_or text 0 0) ≡ true → 0 < length text
not_empty [] e = absurd (false≢true e)
not_empty (x ∷ xs) e = omega arith

-- what is not read is too large
not_read : {E : Type 0} (text : List ℕ) (d : E) → ParsesUnsigned 32 10 text (Err d) → nat_lt 48 (get_or text 0 0) ≡ true → all_ascii_digits text ≡ true → 100000 < digits_value 10 text
not_read text d h first all =
    let no : (0 < length text) × (digits_value 10 text < 2 ^ 32) → ⊥ = parse_digits digits 32 text (Err d) h all in
    let large : digits_value 10 text < 2 ^ 32 → ⊥ = λ l. no (not_empty text first, l) in
    omega arith

-- a decimal that is not read is no count
pub no_count : {E : Type 0} (text : List ℕ) (r : Result ℕ E) (d : E) → ParsesUnsigned 32 10 text r → r ≡ Err d → is_decimal text ≡ true → count_of text ≡ None
no_count text r d h err e =
    let p = both (nat_lt 48 (get_or text 0 0)) (all_ascii_digits text) e in
    let large : nat_le (digits_value 10 text) 100000 ≡ false = grind (arith, nat_tests, not_read text d (subst (ParsesUnsigned 32 10 text) err h) p.0 p.1) in
    rw (e, large) refl
