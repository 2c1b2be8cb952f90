-- Small objects on which the definitions are computed.
use Rattle.std.specs.Prelude.{ℕ, false, List, codes, length, Option, ℤ}
use Rattle.oc_base.specs.declared.format.Format.{Format}
use Rattle.oc_linking.specs.{declared.terms.Kind.{Kind}, declared.terms.Width.TheVariants.{Four}, declared.terms.Check.{Check}, declared.terms.Base.{Base}}
use Rattle.oc_linking.specs.{declared.terms.Less.{Less}, declared.terms.Hint.TheVariants.{Plain}, declared.terms.Mark.TheVariants.{NoType}}
use Rattle.oc_linking.specs.{declared.terms.Visibility.TheVariants.{Default}, declared.terms.Binding.{Binding}}
use Rattle.oc_chains.specs.{declared.field.Field.{Field}, Lists.{Lists}}
use Rattle.oc_neutral.specs.{declared.group.Group.{Group}, declared.section.Section.{Section}, declared.symbol.Symbol.{Symbol}, declared.reloc.Target.{Target}}
use Rattle.oc_neutral.specs.{declared.reloc.Reloc.{Reloc}, Objects.{Object}}

-- a symbol of that name, binding and number
abbrev pub symbol : List ℕ → Binding → ℕ → Symbol
symbol name b number = record { name = name; binding = b; mark = NoType; vis = Default; size = 0; pinned = false; number = number }

-- a section of that kind, with these bytes and that number, in a group or in none
abbrev pub section : Kind → List ℕ → ℕ → Option ℕ → Section
section kind bytes number group =
    record { name = codes ".s"; kind = kind; align = 1; size = length bytes; bytes = bytes; tag = 0; number = number; group = group }

-- a group of that key
abbrev pub group : List ℕ → Group
group key = record { key = key }

-- a field of four bytes
abbrev pub field : ℕ → Target → Base → Less → Check → ℤ → Field Reloc
field at t base less check addend =
    record { at = at; width = 4; item = record { target = t; form = record { base = base; less = less; width = Four; check = check }; addend = addend; hint = Plain } }

-- an object of these parts
abbrev pub object : Format → List Group → List Section → List Symbol → Lists Reloc → Object
object format groups sections symbols relocs = record { format = format; groups = groups; sections = sections; symbols = symbols; relocs = relocs }
