-- Where the key symbol of a group lies (our profile).
use Rattle.std.specs.{Prelude.{ℕ, if◌then◌else◌, Option, Some, None}, Option.{option_and_then}}
use Rattle.oc_neutral.specs.{declared.symbol.Symbol.{Symbol}, KeySymbols.{global_place, is_key_at}, Normal.{Place}, Objects.{Object}}

-- the section in which a symbol is the key symbol of the section's group
abbrev pub key_place : Object → Symbol → Option ℕ
key_place n s = option_and_then (λ (place : Place). if is_key_at n place.0 s then Some place.0 else None) (global_place s.binding)
