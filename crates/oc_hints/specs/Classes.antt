-- How the differences of hints show (our profile; docs/INTEROPERABILITY.md has an entry for each key).
use Rattle.oc_hints.specs.declared.key.Class.{Class}
use Rattle.oc_hints.specs.declared.key.Class.TheVariants.{Silent, Loud, Note}
use Rattle.oc_hints.specs.{declared.key.SymbolKey.{SymbolKey}, declared.key.FieldKey.{FieldKey}, declared.hint.Hint.{Hint}}
use Rattle.oc_hints.specs.declared.key.SymbolKey.TheVariants as symbol
use Rattle.oc_hints.specs.declared.key.FieldKey.TheVariants as field
use Rattle.oc_hints.specs.declared.hint.Hint.TheVariants as hint

-- of what is said of a symbol
abbrev pub symbol_class : SymbolKey → Class
symbol_class symbol.WeakAtZero = Silent
symbol_class symbol.VersionedName = Silent
symbol_class symbol.LinkerName = Silent
symbol_class symbol.CommonAlignment = Silent
symbol_class symbol.NoHandler = Silent
symbol_class symbol.LtoOnly = Loud
symbol_class symbol.WeakAbsent = Loud

-- of what is said of fields
abbrev pub field_class : FieldKey → Class
field_class field.AddressInReadOnly = Silent
field_class field.DistanceForAddress = Silent
field_class field.CallWithoutStub = Silent
field_class field.SplitLiterals = Silent
field_class field.CallRecompile = Loud
field_class field.AddressOutOfRange = Loud
field_class field.TextRelocations = Loud

-- of a hint: all that is said of sections is silent, all that is said of the file is loud, and what is said of edits is a note
abbrev pub class_of : Hint → Class
class_of (hint.Symbol key name) = symbol_class key
class_of (hint.Section key name) = Silent
class_of (hint.Field key section at count) = field_class key
class_of (hint.File key) = Loud
class_of (hint.Edit key name) = Note
