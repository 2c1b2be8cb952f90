-- Symbols by the conditions that each meets by itself (PE/COFF; our profile).
use Rattle.oc_coff.specs.{Files.{CoffFile, tables_in}, Forms.{symbol_size}}
use Rattle.oc_coff.specs.declared.constants.TheConstants.{IMAGE_SYM_CLASS_EXTERNAL, IMAGE_SYM_CLASS_WEAK_EXTERNAL, IMAGE_SYM_DEBUG}
use Rattle.oc_coff.specs.{declared.symbol.SymbolEntry.{SymbolEntry}, Tables.{SectionTable, Tables}, Comdat.{section_numbered}, Names.{is_nothing, symbol_name}}
use Rattle.oc_coff.specs.{Entries.{Entry, entries_in, is_class, name_of}, Sections.{sections_in}}
use Rattle.oc_coff.specs.SymbolFaults.{can_be_tagged, is_external, is_known, is_no_section, is_past_end, is_static, is_uncarried, is_undefined}
use Rattle.oc_coff.specs.Symbols.{tagged_by}
use Rattle.std.specs.Prelude.{ℕ, ◌+◌, ◌*◌, Bool, not, ◌&&◌, nat_eq, nat_lt, false, if◌then◌else◌, List, [], ◌∷◌, ◌++◌, length, map, is_none, Option, Some, None}
use Rattle.std.specs.Option.{option_map_or}
use Rattle.oc_base.specs.{declared.code.Code.{Code}, declared.code.Code.TheVariants.{BadSymbol, BadName, DuplicateName, SymbolKind, SymbolPastEnd}}
use Rattle.oc_base.specs.{declared.fault.Phase.TheVariants.{Symbol}, declared.fault.Fault.{Fault}}
use Rattle.oc_linking.specs.FirstFault.{Condition}
use Rattle.oc_strings.specs.{declared.repeats.Repeat.{Repeat}, Repeats.{NameList}}
use Rattle.oc_coff_judge.specs.Numbered.{entry_by}

-- a fault of symbol number j
abbrev pub symbol_fault_at : Tables → ℕ → Code → Fault
symbol_fault_at t j code = record { phase = Symbol; index = j; code = code; place = t.entries_at + symbol_size t.shape * j }

-- section number k exists, and has fewer bytes
abbrev pub ends_before : Tables → ℕ → ℕ → Bool
ends_before t k offset = option_map_or (λ (x : SectionTable). nat_lt x.header.SizeOfRawData offset) (section_numbered t k) false

-- the conditions on the place, the name and the section of symbol number j
abbrev pub places_of : Tables → ℕ → SymbolEntry → List Condition
places_of t j s =
    (nat_lt (length t.entries) (j + 1 + s.NumberOfAuxSymbols), symbol_fault_at t j BadSymbol)
    ∷ (is_none (symbol_name t.strings s.Name), symbol_fault_at t j BadName)
    ∷ (is_no_section (length t.sections) s.SectionNumber, symbol_fault_at t j BadSymbol)
    ∷ []

-- those on its class and value
abbrev pub classes_of : Tables → ℕ → SymbolEntry → List Condition
classes_of t j s =
    (not (is_known s), symbol_fault_at t j SymbolKind)
    ∷ (is_static s && is_undefined s, symbol_fault_at t j SymbolKind)
    ∷ (is_class IMAGE_SYM_CLASS_WEAK_EXTERNAL s && not (is_undefined s), symbol_fault_at t j SymbolKind)
    ∷ (is_past_end t s, symbol_fault_at t j SymbolPastEnd)
    ∷ []

-- those on what a weak external tags
abbrev pub tagged_of : Tables → ℕ → Option Entry → List Condition
tagged_of t j tagged =
    (is_none tagged, symbol_fault_at t j BadSymbol)
    ∷ (not (option_map_or (λ (d : Entry). can_be_tagged (sections_in t) d.symbol) tagged false), symbol_fault_at t j SymbolKind)
    ∷ []

-- the same of any symbol
abbrev pub tags_of : Tables → Entry → List Condition
tags_of t e = if is_class IMAGE_SYM_CLASS_WEAK_EXTERNAL e.symbol then tagged_of t e.number (tagged_by (entries_in t) e) else []

-- those on its section and its name, where it is given whether the name came before
abbrev pub names_of : Tables → ℕ → SymbolEntry → List ℕ → Bool → List Condition
names_of t j s name again =
    (is_class IMAGE_SYM_CLASS_EXTERNAL s && is_uncarried (sections_in t) s, symbol_fault_at t j SymbolKind)
    ∷ (is_external s && is_nothing name, symbol_fault_at t j SymbolKind)
    ∷ (again, symbol_fault_at t j DuplicateName)
    ∷ []

-- all of these
abbrev pub parts_of : Tables → Entry → Bool → List Condition
parts_of t e again =
    places_of t e.number e.symbol
    ++ (classes_of t e.number e.symbol
    ++ (tags_of t e
    ++ names_of t e.number e.symbol (name_of t.strings e) again))

-- ... names that other files see

-- the name of a symbol that takes part in the test for names that occur twice
abbrev pub public_name : List ℕ → Entry → Option (List ℕ)
public_name strings e = if is_external e.symbol && not (nat_eq e.symbol.SectionNumber IMAGE_SYM_DEBUG) then Some (name_of strings e) else None

-- that of entry j
abbrev pub public_name_by : CoffFile → ℕ → Option (List ℕ)
public_name_by file j = public_name (tables_in file).strings (entry_by file j)

-- those of all symbols, by position
abbrev pub public_names : Tables → NameList
public_names t = map (public_name t.strings) (entries_in t)

-- a repeat ends at a position
abbrev pub ends_at : Option Repeat → ℕ → Bool
ends_at found i = option_map_or (λ (r : Repeat). nat_eq r.later i) found false
