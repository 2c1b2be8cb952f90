-- The parts of a line, between its blanks (our profile).
use Rattle.std.specs.{Prelude.{ℕ, Bool, nat_eq, List, [], ◌∷◌, Option, Some, None}, List.{slice_split}, Option.{option_map, option_and_then}}
use denote.Ref.{Bor}
use Rattle.oc_place.specs.{declared.spot.Spot.{Spot}, Digits.{hex_of, decimal_of}}

-- a blank
abbrev pub is_blank : ℕ → Bool
is_blank b = nat_eq b 32

-- the parts of a text, between its blanks
abbrev pub parts_of : List ℕ → List (List ℕ)
parts_of text = slice_split is_blank text

-- the parts that are left, where some text is left
abbrev pub left : Option (Bor (List ℕ)) → List (List ℕ)
left None = []
left (Some text) = parts_of text.now

-- a number, and the parts after it
abbrev pub Read : Type 0 → Type 0
Read X = Option (X × List (List ℕ))

-- the next part as a number of hexadecimal
abbrev pub hex_next : List (List ℕ) → Read ℕ
hex_next [] = None
hex_next (part ∷ parts) = option_map (λ h. (h, parts)) (hex_of part)

-- the next part as a decimal
abbrev pub decimal_next : List (List ℕ) → Read ℕ
decimal_next [] = None
decimal_next (part ∷ parts) = option_map (λ k. (k, parts)) (decimal_of part)

-- the next three parts as an address, a home and a home number
abbrev pub spot_next : List (List ℕ) → Read Spot
spot_next parts =
    option_and_then (λ (a : ℕ × List (List ℕ)).
    option_and_then (λ (h : ℕ × List (List ℕ)).
    option_map (λ (n : ℕ × List (List ℕ)). (record { address = a.0; home = h.0; number = n.0 }, n.1)) (hex_next h.1)) (hex_next a.1)) (hex_next parts)

-- what was read, where nothing is left
abbrev pub whole : {X : Type 0} → X → List (List ℕ) → Option X
whole x [] = Some x
whole x (part ∷ parts) = None

-- the only part that is left
abbrev pub only : List (List ℕ) → Option (List ℕ)
only [] = None
only (part ∷ []) = Some part
only (part ∷ (next ∷ parts)) = None
