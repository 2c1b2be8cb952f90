-- Names (PE/COFF, "Symbol Name Representation", "COFF String Table" and "Section Table").
use Rattle.std.specs.Prelude.{ℕ, ◌+◌, ◌-◌, ◌*◌, Bool, true, false, not, ◌&&◌, nat_eq, nat_le, if◌then◌else◌, List, [], ◌∷◌, ◌++◌, take, replicate, fold, Option, Some, None}
use Rattle.std.specs.List.{list_all, before_first}
use Rattle.oc_base.specs.Numbers.{number_at}
use Rattle.oc_shelf.specs.Reading.Texts.{text_at}
use Rattle.oc_neutral.specs.declared.coff.TheConstants.{STRINGS_HEAD}

-- the bytes before the first NUL, or all
abbrev pub until_nul : List ℕ → List ℕ
until_nul bytes = before_first (λ c. nat_eq c 0) bytes

-- a name of up to eight bytes, with NULs after it
abbrev pub padded : List ℕ → List ℕ
padded name = take 8 (name ++ replicate 8 0)

-- the list is empty
abbrev pub is_nothing : List ℕ → Bool
is_nothing [] = true
is_nothing (x ∷ xs) = false

-- the text at an offset of a string table, after its size; none where no NUL ends it
unfoldable pub string_at : List ℕ → ℕ → Option (List ℕ)
string_at strings offset = if nat_le STRINGS_HEAD offset then text_at strings offset else None

-- a decimal digit: `0` is 48, and `9` is 57
abbrev pub is_digit : ℕ → Bool
is_digit c = nat_le 48 c && nat_le c 57

-- the number of decimal digits
abbrev pub decimal_of : List ℕ → ℕ
decimal_of digits = fold (λ n c. n * 10 + (c - 48)) 0 digits

-- the name that a text in a section header stands for: after `/` (47) comes a decimal offset in the string table
abbrev pub name_for : List ℕ → List ℕ → Option (List ℕ)
name_for strings [] = Some []
name_for strings (c ∷ rest) =
    if nat_eq c 47 then (if not (is_nothing rest) && list_all is_digit rest then string_at strings (decimal_of rest) else None) else Some (c ∷ rest)

-- the name of a section by the eight bytes in its header
unfoldable pub section_name : List ℕ → List ℕ → Option (List ℕ)
section_name strings field = name_for strings (until_nul field)

-- the name of a symbol by the eight bytes in its entry: after four zeros comes an offset in the string table, or 0 for the empty name
unfoldable pub symbol_name : List ℕ → List ℕ → Option (List ℕ)
symbol_name strings field =
    if nat_eq (number_at field 0 4) 0 then (if nat_eq (number_at field 4 4) 0 then Some [] else string_at strings (number_at field 4 4)) else Some (until_nul field)
