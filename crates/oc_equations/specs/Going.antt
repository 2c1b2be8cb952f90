-- What goes with the sections that are not kept (our profile), by the flags of all sections.
use Rattle.std.specs.{Prelude.{ℕ, Bool, true, false, not, ◌||◌, List, get_or, Option, Some, None}, Option.{option_map_or}}
use Rattle.oc_linking.specs.{declared.terms.Value.{Value}, declared.terms.Binding.{Binding}, declared.terms.Less.{Less}}
use Rattle.oc_linking.specs.declared.terms.Binding.TheVariants.{Local, Global, Undefined, Common, Weak}
use Rattle.oc_linking.specs.declared.terms.Value.TheVariants as value
use Rattle.oc_linking.specs.declared.terms.Fallback.TheVariants as fallback
use Rattle.oc_linking.specs.declared.terms.Less.TheVariants as less
use Rattle.oc_neutral.specs.{declared.reloc.Target.{Target}, declared.reloc.Reloc.{Reloc}}
use Rattle.oc_neutral.specs.declared.reloc.Target.TheVariants as target

-- the section at a position goes
abbrev pub goes : List Bool → ℕ → Bool
goes kept k = not (get_or kept k true)

-- the section in which a value lies
abbrev pub section_of_value : Value → Option ℕ
section_of_value (value.Place k offset) = Some k
section_of_value (value.Absolute i) = None

-- the section in which a symbol of this binding lies; one that stands for another lies in none
abbrev pub section_of : Binding → Option ℕ
section_of (Local v) = section_of_value v
section_of (Global v) = section_of_value v
section_of Undefined = None
section_of (Common size align) = None
section_of (Weak (fallback.Place k offset)) = Some k
section_of (Weak fallback.Zero) = None
section_of (Weak (fallback.Name k)) = None

-- a symbol of this binding goes with its section
abbrev pub goes_with : List Bool → Binding → Bool
goes_with kept b = option_map_or (goes kept) (section_of b) false

-- a relocation names a section that goes
abbrev pub names_gone : List Bool → Target → Bool
names_gone kept (target.Section k) = goes kept k
names_gone kept (target.Symbol k) = false

-- or it takes the address of one
abbrev pub takes_gone : List Bool → Less → Bool
takes_gone kept (less.Section k) = goes kept k
takes_gone kept less.Zero = false
takes_gone kept less.Place = false
takes_gone kept less.GotBase = false
takes_gone kept less.ImageBase = false
takes_gone kept less.Home = false

abbrev pub refers_gone : List Bool → Reloc → Bool
refers_gone kept r = names_gone kept r.target || takes_gone kept r.form.less
