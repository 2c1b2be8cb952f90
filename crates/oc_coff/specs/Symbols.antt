-- Symbols (PE/COFF, "COFF Symbol Table", "Storage Class", "Section Number Values" and "Auxiliary Format 3: Weak Externals"; our profile).
use Rattle.std.specs.{Prelude.{ℕ, Bool, false, not, ◌&&◌, ◌||◌, nat_eq, if◌then◌else◌, List, Option, Some, None, filter_map}, List.{list_any}}
use Rattle.std.specs.Option.{option_map, option_map_or, option_and_then}
use Rattle.oc_linking.specs.{declared.terms.Mark.TheVariants.{NoType, Function}, declared.terms.Visibility.TheVariants.{Default}, declared.terms.Value.{Value}}
use Rattle.oc_linking.specs.{declared.terms.Fallback.{Fallback}, declared.terms.Binding.{Binding}}
use Rattle.oc_linking.specs.{declared.terms.Binding.TheVariants.{Local, Global, Undefined, Common, Weak}, Parts.{Section, Symbol}}
use Rattle.oc_linking.specs.declared.terms.Value.TheVariants as value
use Rattle.oc_linking.specs.declared.terms.Fallback.TheVariants as fallback
use Rattle.oc_neutral.specs.Powers.{natural_align}
use Rattle.oc_coff.specs.declared.symbol.SymbolEntry.{SymbolEntry}
use Rattle.oc_coff.specs.declared.constants.TheConstants.{IMAGE_SYM_UNDEFINED, IMAGE_SYM_ABSOLUTE, IMAGE_SYM_TYPE_FUNCTION, IMAGE_SYM_CLASS_EXTERNAL, IMAGE_SYM_CLASS_STATIC, IMAGE_SYM_CLASS_LABEL, IMAGE_SYM_CLASS_WEAK_EXTERNAL}
use Rattle.oc_coff.specs.{Tables.{Slot, Tables}, Names.{is_nothing}, Sections.{sections_in, position_of}}
use Rattle.oc_coff.specs.Entries.{Entry, entries_in, entry_numbered, name_of, is_class, has_section}

-- the number of the symbol that a weak external tags: its default
abbrev pub tag_of : Entry → Option ℕ
tag_of e = option_map (λ (x : Slot). x.weak.TagIndex) e.aux

-- a weak external tags symbol number j
abbrev pub tags : ℕ → Entry → Bool
tags j e = is_class IMAGE_SYM_CLASS_WEAK_EXTERNAL e.symbol && option_map_or (nat_eq j) (tag_of e) false

-- some weak external tags it
abbrev pub is_tagged : List Entry → ℕ → Bool
is_tagged entries j = list_any (tags j) entries

-- a section's own symbol: STATIC, of value 0, with an auxiliary entry and a section
abbrev pub is_section_symbol : SymbolEntry → Bool
is_section_symbol s = is_class IMAGE_SYM_CLASS_STATIC s && nat_eq s.Value 0 && not (nat_eq s.NumberOfAuxSymbols 0) && has_section s

-- a STATIC symbol that stands for its place and is not carried: a section's own, or one that a weak external tags
abbrev pub is_own : List Entry → Entry → Bool
is_own entries e = is_section_symbol e.symbol || (is_class IMAGE_SYM_CLASS_STATIC e.symbol && is_tagged entries e.number)

-- the value of a symbol that is defined: a number, or a place in a carried section
unfoldable pub value_of : List Section → SymbolEntry → Option Value
value_of sections s =
    if nat_eq s.SectionNumber IMAGE_SYM_ABSOLUTE then Some (value.Absolute s.Value) else option_map (λ k. value.Place k s.Value) (position_of sections s.SectionNumber)

-- the binding of an EXTERNAL symbol: without a section it is Undefined where its value is 0, and else a Common of that size
abbrev pub external_binding : List Section → SymbolEntry → Option Binding
external_binding sections s =
    if nat_eq s.SectionNumber IMAGE_SYM_UNDEFINED
    then (if nat_eq s.Value 0 then Some Undefined else Some (Common s.Value (natural_align s.Value)))
    else option_map Global (value_of sections s)

-- what a tagged STATIC symbol of that value stands for: its place, or 0 where it is absolute
abbrev pub fallback_at : Value → Fallback
fallback_at (value.Place k offset) = fallback.Place k offset
fallback_at (value.Absolute n) = fallback.Zero

-- what a tagged symbol stands for: an EXTERNAL one for itself
abbrev pub fallback_by : List Section → Entry → Option Fallback
fallback_by sections e = if is_class IMAGE_SYM_CLASS_EXTERNAL e.symbol then Some (fallback.Name e.number) else option_map fallback_at (value_of sections e.symbol)

-- the symbol that a weak external tags
abbrev pub tagged_by : List Entry → Entry → Option Entry
tagged_by entries e = option_and_then (entry_numbered entries) (tag_of e)

-- the binding of a weak external, by that symbol
abbrev pub weak_binding : List Section → List Entry → Entry → Option Binding
weak_binding sections entries e = option_map Weak (option_and_then (fallback_by sections) (tagged_by entries e))

-- the binding of a STATIC symbol or a LABEL of that name
abbrev pub local_binding : List Section → List Entry → List ℕ → Entry → Option Binding
local_binding sections entries name e = if is_own entries e || is_nothing name then None else option_map Local (value_of sections e.symbol)

-- the binding of a symbol of that name that is carried
unfoldable pub binding_of : List Section → List Entry → List ℕ → Entry → Option Binding
binding_of sections entries name e =
    if is_class IMAGE_SYM_CLASS_EXTERNAL e.symbol then external_binding sections e.symbol
    else (if is_class IMAGE_SYM_CLASS_WEAK_EXTERNAL e.symbol then weak_binding sections entries e
    else (if is_class IMAGE_SYM_CLASS_STATIC e.symbol || is_class IMAGE_SYM_CLASS_LABEL e.symbol then local_binding sections entries name e else None))

-- a symbol of that name and binding
abbrev pub symbol_with : List ℕ → Entry → Binding → Symbol
symbol_with name e binding = record {
  name = name;
  binding = binding;
  mark = if nat_eq e.symbol.Type IMAGE_SYM_TYPE_FUNCTION then Function else NoType;
  vis = Default;
  size = 0;
  pinned = false;
  number = e.number;
}

-- a symbol, where it is carried
unfoldable pub symbol_of : List ℕ → List Section → List Entry → Entry → Option Symbol
symbol_of strings sections entries e = option_map (symbol_with (name_of strings e) e) (binding_of sections entries (name_of strings e) e)

-- the carried symbols
unfoldable pub symbols_in : Tables → List Symbol
symbols_in t = filter_map (symbol_of t.strings (sections_in t) (entries_in t)) (entries_in t)
