-- Numbers of a placement's lines (our profile).
use Rattle.std.specs.{Prelude.{ℕ, Bool, ◌+◌, ◌-◌, ◌*◌, ◌&&◌, nat_le, if◌then◌else◌, List, [], ◌∷◌, length, Option, Some, None}, Option.{option_and_then}}

-- the value of a digit of hexadecimal in lower case
abbrev pub hex_digit : ℕ → Option ℕ
hex_digit b = if nat_le 48 b && nat_le b 57 then Some (b - 48) else (if nat_le 97 b && nat_le b 102 then Some (b - 87) else None)

-- the value of a decimal digit
abbrev pub decimal_digit : ℕ → Option ℕ
decimal_digit b = if nat_le 48 b && nat_le b 57 then Some (b - 48) else None

-- the number that digits of a base write after those of n; none where one is no digit
abbrev pub number_after : (ℕ → Option ℕ) → ℕ → ℕ → List ℕ → Option ℕ
number_after digit base n [] = Some n
number_after digit base n (b ∷ bs) = option_and_then (λ d. number_after digit base (base * n + d) bs) (digit b)

-- the text has from one byte up to so many
abbrev pub has_up_to : ℕ → List ℕ → Bool
has_up_to most text = nat_le 1 (length text) && nat_le (length text) most

-- the number of 1 to 16 digits of hexadecimal
unfoldable pub hex_of : List ℕ → Option ℕ
hex_of text = if has_up_to 16 text then number_after hex_digit 16 0 text else None

-- the number of 1 to 10 decimal digits
unfoldable pub decimal_of : List ℕ → Option ℕ
decimal_of text = if has_up_to 10 text then number_after decimal_digit 10 0 text else None
