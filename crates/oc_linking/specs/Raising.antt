-- Symbols that name sections by positions among the kept ones, as symbols that name them by positions among the carried ones (our profile).
use Rattle.std.specs.Prelude.{Bool, List}
use Rattle.oc_linking.specs.{declared.terms.Value.{Value}, declared.terms.Fallback.{Fallback}, declared.terms.Binding.{Binding}}
use Rattle.oc_linking.specs.{declared.terms.Binding.TheVariants.{Local, Global, Undefined, Common, Weak}, Parts.{Symbol}, Keeping.{carried_of}}
use Rattle.oc_linking.specs.declared.terms.Value.TheVariants as value
use Rattle.oc_linking.specs.declared.terms.Fallback.TheVariants as fallback

-- a value
abbrev pub raised_value : List Bool → Value → Value
raised_value flags (value.Place s offset) = value.Place (carried_of flags s) offset
raised_value flags (value.Absolute n) = value.Absolute n

-- a fallback
abbrev pub raised_fallback : List Bool → Fallback → Fallback
raised_fallback flags (fallback.Place s offset) = fallback.Place (carried_of flags s) offset
raised_fallback flags fallback.Zero = fallback.Zero
raised_fallback flags (fallback.Name k) = fallback.Name k

-- a binding
abbrev pub raised_binding : List Bool → Binding → Binding
raised_binding flags (Local v) = Local (raised_value flags v)
raised_binding flags (Global v) = Global (raised_value flags v)
raised_binding flags Undefined = Undefined
raised_binding flags (Common size align) = Common size align
raised_binding flags (Weak f) = Weak (raised_fallback flags f)

-- a symbol
abbrev pub raised : List Bool → Symbol → Symbol
raised flags s = record { name = s.name; binding = raised_binding flags s.binding; mark = s.mark; vis = s.vis; size = s.size; pinned = s.pinned; number = s.number }
