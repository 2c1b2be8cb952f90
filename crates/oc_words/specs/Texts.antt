-- Texts that are cut, and texts that are looked up. All are compared byte for byte.
use Rattle.std.specs.Prelude.{ℕ, Bool, ◌&&◌, nat_eq, nat_lt, nat_le, bytes_eq, if◌then◌else◌, List, [], ◌∷◌, length, drop, slice_index, Option, Some, None}
use Rattle.std.specs.{List.{starts_with, position_or_len, before_first, after_first}, Str.{all_ascii_digits}, Str.Parse.{digits_value}}

-- what a text means, by the first row of a table that has it
abbrev pub looked_up : {X : Type 0} → List (List ℕ × X) → List ℕ → Option X
looked_up [] text = None
looked_up (row ∷ rows) text = if bytes_eq text row.0 then Some row.1 else looked_up rows text

-- what comes after the prefix, where the text begins with it
abbrev pub behind : List ℕ → List ℕ → Option (List ℕ)
behind prefix text = if starts_with nat_eq text prefix then Some (drop (length prefix) text) else None

-- the two parts of a text that is cut at a colon
pub record Cut : Type 0 where
  pub before : List ℕ
  pub after : List ℕ

-- the byte is a colon
abbrev pub is_colon : ℕ → Bool
is_colon byte = nat_eq byte 58

-- the text cut at its first colon, where it has one
abbrev pub cut : List ℕ → Option Cut
cut text =
    if nat_lt (position_or_len is_colon text) (length text) then Some (record { before = before_first is_colon text; after = after_first is_colon text }) else None

-- the text is a decimal in ASCII digits that does not begin with 0
abbrev pub is_decimal : List ℕ → Bool
is_decimal text = nat_lt 48 (slice_index text 0) && all_ascii_digits text

-- the number of a decimal of 1 to 100,000 without a leading zero
abbrev pub count_of : List ℕ → Option ℕ
count_of text = if is_decimal text && nat_le (digits_value 10 text) 100000 then Some (digits_value 10 text) else None
