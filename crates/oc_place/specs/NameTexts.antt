-- Names as a placement's lines write them (our profile): as a listing shows them, and any byte may be `\x` and two digits.
use Rattle.std.specs.{Prelude.{ℕ, ◌+◌, ◌*◌, ◌%◌, nat_eq, nat_le, if◌then◌else◌, List, [], ◌∷◌, ◌++◌, Option, Some, None}, Option.{option_map, option_and_then}}
use Rattle.oc_place.specs.{declared.name_text.Next.{Next}, declared.name_text.Next.TheVariants.{Any, Letter, High, Low}, declared.name_text.Step.{Step}}
use Rattle.oc_place.specs.{declared.name_text.Step.TheVariants.{Part, Whole}, Digits.{hex_digit}}

-- what a byte is, by what comes next: any byte of a name but a blank, a control and the backslash is written as it is
abbrev pub step_of : Next → ℕ → Option Step
step_of Any b = if nat_eq b 92 then Some (Part Letter) else (if nat_le 33 b then Some (Whole b) else None)
step_of Letter b = if nat_eq b 120 then Some (Part High) else None
step_of High b = option_map (λ d. Part (Low d)) (hex_digit b)
step_of (Low h) b = option_map (λ d. Whole ((16 * h + d) % 256)) (hex_digit b)

-- the byte of the name that is complete with it
abbrev pub byte_of : Step → List ℕ
byte_of (Part next) = []
byte_of (Whole b) = b ∷ []

-- what comes next after it
abbrev pub next_of : Step → Next
next_of (Part next) = next
next_of (Whole b) = Any

-- a text ends only between two bytes of the name
abbrev pub end_of : Next → Option (List ℕ)
end_of Any = Some []
end_of Letter = None
end_of High = None
end_of (Low h) = None

-- the bytes that a text means from there on
abbrev pub name_after : Next → List ℕ → Option (List ℕ)
name_after next [] = end_of next
name_after next (b ∷ bs) = option_and_then (λ step. option_map (λ rest. byte_of step ++ rest) (name_after (next_of step) bs)) (step_of next b)

-- the name that a text means; it is not empty
unfoldable pub name_of : List ℕ → Option (List ℕ)
name_of [] = None
name_of (b ∷ bs) = name_after Any (b ∷ bs)
