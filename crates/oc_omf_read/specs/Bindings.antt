-- Symbols of the object, by what is seen of them (our profile).
use Rattle.std.specs.{Prelude.{ℕ, ◌-◌, Bool, false, if◌then◌else◌}, Option.{option_map_or}}
use Rattle.oc_linking.specs.{declared.terms.Mark.TheVariants.{NoType}, declared.terms.Visibility.TheVariants.{Default}, declared.terms.Binding.{Binding}}
use Rattle.oc_linking.specs.declared.terms.Binding.TheVariants.{Local, Global, Undefined, Common}
use Rattle.oc_linking.specs.declared.terms.Value.TheVariants as value
use Rattle.oc_neutral.specs.{declared.symbol.Symbol.{Symbol}, Powers.{natural_align}}
use Rattle.oc_omf_read.specs.Mentioned.{ModuleSymbol}

-- a symbol that is defined at an offset of the segment of an index
abbrev pub place_binding : Bool → ℕ × ℕ → Binding
place_binding local place = if local then Local (value.Place (place.0 - 1) place.1) else Global (value.Place (place.0 - 1) place.1)

-- a symbol: defined, else communal, else undefined
abbrev pub binding_seen : ModuleSymbol → Binding
binding_seen s = option_map_or (place_binding s.local) s.place (option_map_or (λ size. Common size (natural_align size)) s.length Undefined)

-- in the object, with its number
abbrev pub symbol_seen : ℕ → ModuleSymbol → Symbol
symbol_seen k s = record { name = s.name; binding = binding_seen s; mark = NoType; vis = Default; size = 0; pinned = false; number = k }
