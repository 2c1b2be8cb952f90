-- What hints say of symbols (docs/INTEROPERABILITY.md; our profile).
use Rattle.std.specs.{Prelude.{Bool, true, false, not, ◌&&◌, nat_eq, nat_lt, List}, List.{list_any}}
use Rattle.oc_linking.specs.{declared.terms.Binding.{Binding}, declared.terms.Kind.TheVariants.{Exception}, Parts.{is_local}}
use Rattle.oc_linking.specs.declared.terms.Binding.TheVariants.{Local, Global, Undefined, Common, Weak}
use Rattle.oc_linking.specs.{declared.terms.Fallback.{Fallback}}
use Rattle.oc_linking.specs.declared.terms.Fallback.TheVariants as fallback
use Rattle.oc_neutral.specs.{declared.section.Section.{Section}, declared.symbol.Symbol.{Symbol}, KindRules.{same_kind}}
use Rattle.oc_names.specs.Kept.{keep_for}
use Rattle.oc_hints.specs.{declared.key.SymbolKey.{SymbolKey}, Case.{Case, crosses, is_coff, is_elf, is_mach, is_wide, source_of}}
use Rattle.oc_hints.specs.Names.{bare, has_version, is_bare_thrower, is_set_by_linker, is_slim}
use Rattle.oc_hints.specs.declared.key.SymbolKey.TheVariants as key

-- ... bindings

-- the fallback is a place
abbrev pub is_place : Fallback → Bool
is_place (fallback.Place section offset) = true
is_place fallback.Zero = false
is_place (fallback.Name k) = false

-- a weak definition
abbrev pub is_weak_place : Binding → Bool
is_weak_place (Local v) = false
is_weak_place (Global v) = false
is_weak_place Undefined = false
is_weak_place (Common size align) = false
is_weak_place (Weak f) = is_place f

-- the fallback is the number 0
abbrev pub is_nothing : Fallback → Bool
is_nothing (fallback.Place section offset) = false
is_nothing fallback.Zero = true
is_nothing (fallback.Name k) = false

-- a weak reference
abbrev pub is_weak_zero : Binding → Bool
is_weak_zero (Local v) = false
is_weak_zero (Global v) = false
is_weak_zero Undefined = false
is_weak_zero (Common size align) = false
is_weak_zero (Weak f) = is_nothing f

-- a name that is defined here for others
abbrev pub is_defined : Binding → Bool
is_defined (Local v) = false
is_defined (Global v) = true
is_defined Undefined = false
is_defined (Common size align) = true
is_defined (Weak f) = is_place f

-- a common of more than one byte, at any address
abbrev pub is_unaligned : Binding → Bool
is_unaligned (Local v) = false
is_unaligned (Global v) = false
is_unaligned Undefined = false
is_unaligned (Common size align) = nat_eq align 1 && nat_lt 1 size
is_unaligned (Weak f) = false

-- ... the conversion

-- a table for unwinding
abbrev pub is_table : Section → Bool
is_table s = same_kind s.kind Exception

-- the object has tables for unwinding, and they are dropped
abbrev pub drops_tables : Case → Bool
drops_tables x = not (keep_for x.wishes (source_of x) x.to).exceptions && list_any is_table x.input.sections

-- the conversion is one that the key is about
abbrev pub concerns_symbols : SymbolKey → Case → Bool
concerns_symbols key.WeakAtZero x = is_coff x.to
concerns_symbols key.VersionedName x = crosses x && is_elf x.to
concerns_symbols key.LinkerName x = is_elf x.to
concerns_symbols key.CommonAlignment x = crosses x && is_mach (source_of x)
concerns_symbols key.NoHandler x = drops_tables x
concerns_symbols key.LtoOnly x = crosses x && is_elf (source_of x)
concerns_symbols key.WeakAbsent x = is_mach x.to && is_wide x.to

-- ... the symbol

-- the key is about a symbol
abbrev pub symbol_meets : SymbolKey → Symbol → Bool
symbol_meets key.WeakAtZero s = is_weak_place s.binding
symbol_meets key.VersionedName s = not (is_local s.binding) && has_version s.name
symbol_meets key.LinkerName s = is_defined s.binding && is_set_by_linker s.name
symbol_meets key.CommonAlignment s = is_unaligned s.binding
symbol_meets key.NoHandler s = not (is_local s.binding) && is_bare_thrower (bare s.name)
symbol_meets key.LtoOnly s = is_slim s.name
symbol_meets key.WeakAbsent s = is_weak_zero s.binding

-- the symbols that the key is about: those of the file where it is about what is dropped, and else those of the output
abbrev pub symbols_for : SymbolKey → Case → List Symbol
symbols_for key.WeakAtZero x = x.output.symbols
symbols_for key.VersionedName x = x.output.symbols
symbols_for key.LinkerName x = x.output.symbols
symbols_for key.CommonAlignment x = x.output.symbols
symbols_for key.NoHandler x = x.input.symbols
symbols_for key.LtoOnly x = x.input.symbols
symbols_for key.WeakAbsent x = x.output.symbols
