-- The value and the section number of a symbol, and what else its entry gives (PE/COFF, "COFF Symbol Table", "Section Number Values" and
-- "Storage Class"; our profile).
use Rattle.std.specs.Prelude.{◌≡◌, ℕ, ◌+◌, ◌^◌, ◌<◌}
use Rattle.oc_linking.specs.{declared.terms.Mark.{Mark}, declared.terms.Mark.TheVariants.{NoType, Object as ObjectMark, Function}, declared.terms.Value.{Value}}
use Rattle.oc_linking.specs.{declared.terms.Fallback.{Fallback}, declared.terms.Binding.{Binding}}
use Rattle.oc_linking.specs.declared.terms.Binding.TheVariants.{Local, Global, Undefined, Common, Weak}
use Rattle.oc_linking.specs.declared.terms.Value.TheVariants as value
use Rattle.oc_linking.specs.declared.terms.Fallback.TheVariants as fallback
use Rattle.oc_coff.specs.declared.constants.TheConstants.{IMAGE_SYM_UNDEFINED, IMAGE_SYM_ABSOLUTE, IMAGE_SYM_TYPE_FUNCTION, IMAGE_SYM_CLASS_EXTERNAL, IMAGE_SYM_CLASS_STATIC, IMAGE_SYM_CLASS_WEAK_EXTERNAL}
use Rattle.oc_coff.specs.declared.values.Numbers.{Numbers}

-- a value: its number, and the number of its section
abbrev pub numbers_of : Value → ℕ × ℕ
numbers_of (value.Place k offset) = (offset, k + 1)
numbers_of (value.Absolute n) = (n, IMAGE_SYM_ABSOLUTE)

-- the numbers for a fallback: its place, or the absolute number 0
abbrev pub numbers_for : Fallback → ℕ × ℕ
numbers_for (fallback.Place k offset) = (offset, k + 1)
numbers_for fallback.Zero = (0, IMAGE_SYM_ABSOLUTE)
numbers_for (fallback.Name k) = (0, IMAGE_SYM_UNDEFINED)

-- the value and the section number of a symbol
abbrev pub numbers_by : Binding → ℕ × ℕ
numbers_by (Local v) = numbers_of v
numbers_by (Global v) = numbers_of v
numbers_by Undefined = (0, IMAGE_SYM_UNDEFINED)
numbers_by (Common size align) = (size, IMAGE_SYM_UNDEFINED)
numbers_by (Weak f) = (0, IMAGE_SYM_UNDEFINED)

-- and of its default
abbrev pub default_numbers : Binding → ℕ × ℕ
default_numbers (Local v) = (0, IMAGE_SYM_UNDEFINED)
default_numbers (Global v) = (0, IMAGE_SYM_UNDEFINED)
default_numbers Undefined = (0, IMAGE_SYM_UNDEFINED)
default_numbers (Common size align) = (0, IMAGE_SYM_UNDEFINED)
default_numbers (Weak f) = numbers_for f

-- the type of a symbol with that mark
abbrev pub type_by : Mark → ℕ
type_by NoType = 0
type_by ObjectMark = 0
type_by Function = IMAGE_SYM_TYPE_FUNCTION

-- the class of a symbol that is not Local
abbrev pub class_by : Binding → ℕ
class_by (Local v) = IMAGE_SYM_CLASS_STATIC
class_by (Global v) = IMAGE_SYM_CLASS_EXTERNAL
class_by Undefined = IMAGE_SYM_CLASS_EXTERNAL
class_by (Common size align) = IMAGE_SYM_CLASS_EXTERNAL
class_by (Weak f) = IMAGE_SYM_CLASS_WEAK_EXTERNAL

-- how many auxiliary entries it has
abbrev pub aux_by : Binding → ℕ
aux_by (Local v) = 0
aux_by (Global v) = 0
aux_by Undefined = 0
aux_by (Common size align) = 0
aux_by (Weak f) = 1

-- both fit an entry
abbrev pub HasRoom : ℕ × ℕ → Type 0
HasRoom p = (p.0 < 2 ^ 32) × (p.1 < 2 ^ 32)

-- these are the two
pub record AreNumbers (x : Numbers) (p : ℕ × ℕ) : Type 0 where
  pub value : x.value ≡ p.0
  pub section : x.section ≡ p.1
