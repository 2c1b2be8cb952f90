-- The lines of the symbol table by positions (Mach-O reference, "nlist"; our profile).
use Rattle.std.specs.{Prelude.{◌≡◌, ◌++◌, ◌<◌, Bool, List, length, slice_get, Option, Some, map}, Option.{option_map}}
use Rattle.oc_base.specs.declared.format.Word.{Word}
use Rattle.oc_linking.specs.declared.terms.Binding.{Binding}
use Rattle.oc_neutral.specs.{Bindings.{is_zero}, Dressing.{is_common}, Objects.{Object}}
use Rattle.oc_shows.specs.SymbolLines.{is_defined, is_undefined, is_weak_with}
use Rattle.oc_target.specs.Fitted.{IsFitted}
use Rattle.oc_macho.specs.MachHeader.{mach_format}
use Rattle.oc_macho_file.specs.Lines as lines
use Rattle.oc_macho_write.specs.{declared.lines.Line.{Line}, declared.lines.Outer.{Outer}}
use Rattle.oc_macho_write.specs.declared.lines.Outer.TheVariants.{Defined, Undefined, Common, Optional}
use Rattle.oc_macho_write.specs.declared.lines.Line.TheVariants as line

-- the line with the symbol at its position, if that exists
abbrev pub line_in : Object → Line → Option lines.Line
line_in n (line.Own k) = Some (lines.OwnLine k)
line_in n (line.Local k) = option_map (lines.LocalLine k) (slice_get n.symbols k)
line_in n (line.Outer k) = option_map (lines.OuterLine k) (slice_get n.symbols k)

-- each of these
abbrev pub lines_in : Object → List Line → List (Option lines.Line)
lines_in n these = map (line_in n) these

-- these lines of the object were added
abbrev pub AreAdded : Object → List lines.Line → List Line → List Line → Type 0
AreAdded n these old new = lines_in n new ≡ lines_in n old ++ map Some these

-- these are the lines of the object, all there
abbrev pub AreLines : Word → Object → List Line → Type 0
AreLines w n these = lines_in n these ≡ map Some (lines.lines_of w n)

-- these are the lines of an object that is ready for Mach-O, in one of its words
pub record AreLinesOf (n : Object) (these : List Line) : Type 0 where
  pub word : Word
  pub fitted : IsFitted (mach_format word) n
  pub lines : AreLines word n these

-- a symbol with that binding is of that kind
abbrev pub is_outer : Outer → Binding → Bool
is_outer Defined b = is_defined b
is_outer Undefined b = is_undefined b
is_outer Common b = is_common b
is_outer Optional b = is_weak_with is_zero b

-- the section of an `l_section_k` exists
abbrev pub IsNamed : Object → Line → Type 0
IsNamed n (line.Own k) = k < length n.sections
IsNamed n (line.Local k) = Unit {0}
IsNamed n (line.Outer k) = Unit {0}
