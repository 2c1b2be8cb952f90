-- What the symbols of a file must meet (PE/COFF, "COFF Symbol Table", "Storage Class", "Section Number Values" and "Auxiliary Format 3: Weak Externals";
-- our profile).
use Rattle.std.specs.Prelude.{ℕ, ◌+◌, ◌*◌, Bool, false, not, ◌&&◌, ◌||◌, nat_eq, nat_lt, nat_le, if◌then◌else◌, List, [], ◌∷◌, ◌++◌, length, take, bytes_eq, is_none, Option}
use Rattle.std.specs.{List.{list_any}, Option.{option_map_or, is_some}}
use Rattle.oc_base.specs.{declared.code.Code.{Code}, declared.code.Code.TheVariants.{BadSymbol, BadName, SymbolKind, SymbolPastEnd, DuplicateName}}
use Rattle.oc_base.specs.{declared.fault.Phase.TheVariants.{Symbol}, declared.fault.Fault.{Fault}}
use Rattle.oc_linking.specs.Parts as parts
use Rattle.oc_linking.specs.FirstFault.{Condition, Stage}
use Rattle.oc_neutral.specs.TargetSections.{each_of}
use Rattle.oc_coff.specs.declared.symbol.SymbolEntry.{SymbolEntry}
use Rattle.oc_coff.specs.declared.constants.TheConstants.{IMAGE_SYM_SECTION_MAX_EX, IMAGE_SYM_UNDEFINED, IMAGE_SYM_ABSOLUTE, IMAGE_SYM_DEBUG, IMAGE_SYM_CLASS_EXTERNAL, IMAGE_SYM_CLASS_STATIC, IMAGE_SYM_CLASS_LABEL, IMAGE_SYM_CLASS_FUNCTION, IMAGE_SYM_CLASS_FILE, IMAGE_SYM_CLASS_WEAK_EXTERNAL}
use Rattle.oc_coff.specs.{Forms.{symbol_size}, Tables.{SectionTable, Tables}, Names.{is_nothing, symbol_name}, Comdat.{section_numbered}}
use Rattle.oc_coff.specs.{Sections.{sections_in, position_of}, Entries.{Entry, entries_in, name_of, is_class, has_section}, Symbols.{tagged_by}}

-- a fault of a symbol
abbrev pub symbol_fault : Tables → Entry → Code → Fault
symbol_fault t e code = record { phase = Symbol; index = e.number; code = code; place = t.entries_at + symbol_size t.shape * e.number }

-- the section number is one of a section that is not there, or below -2
abbrev pub is_no_section : ℕ → ℕ → Bool
is_no_section count n = if nat_le n IMAGE_SYM_SECTION_MAX_EX then nat_lt count n else nat_lt n IMAGE_SYM_DEBUG

-- the class is a known one
abbrev pub is_known : SymbolEntry → Bool
is_known s =
    is_class IMAGE_SYM_CLASS_EXTERNAL s || is_class IMAGE_SYM_CLASS_STATIC s || is_class IMAGE_SYM_CLASS_LABEL s || is_class IMAGE_SYM_CLASS_FUNCTION s
    || is_class IMAGE_SYM_CLASS_FILE s || is_class IMAGE_SYM_CLASS_WEAK_EXTERNAL s

-- the symbol is one of this file alone that needs a section or a value
abbrev pub is_static : SymbolEntry → Bool
is_static s = is_class IMAGE_SYM_CLASS_STATIC s || is_class IMAGE_SYM_CLASS_LABEL s

-- the symbol is seen by all files
abbrev pub is_external : SymbolEntry → Bool
is_external s = is_class IMAGE_SYM_CLASS_EXTERNAL s || is_class IMAGE_SYM_CLASS_WEAK_EXTERNAL s

-- the symbol has no section
abbrev pub is_undefined : SymbolEntry → Bool
is_undefined s = nat_eq s.SectionNumber IMAGE_SYM_UNDEFINED

-- the symbol lies past the end of its section
abbrev pub is_past_end : Tables → SymbolEntry → Bool
is_past_end t s = has_section s && option_map_or (λ (x : SectionTable). nat_lt x.header.SizeOfRawData s.Value) (section_numbered t s.SectionNumber) false

-- the symbol's section is not carried
abbrev pub is_uncarried : List parts.Section → SymbolEntry → Bool
is_uncarried sections s = has_section s && is_none (position_of sections s.SectionNumber)

-- a weak external may tag it: STATIC with a place in a carried section, STATIC absolute 0, or EXTERNAL of another section than -2
abbrev pub can_be_tagged : List parts.Section → SymbolEntry → Bool
can_be_tagged sections s =
    (is_class IMAGE_SYM_CLASS_STATIC s && ((nat_eq s.SectionNumber IMAGE_SYM_ABSOLUTE && nat_eq s.Value 0) || is_some (position_of sections s.SectionNumber)))
    || (is_class IMAGE_SYM_CLASS_EXTERNAL s && not (nat_eq s.SectionNumber IMAGE_SYM_DEBUG))

-- the conditions on a weak external, by what it tags
abbrev pub tag_conditions : Tables → Entry → Option Entry → List Condition
tag_conditions t e tagged =
    (is_none tagged, symbol_fault t e BadSymbol)
    ∷ (not (option_map_or (λ (d : Entry). can_be_tagged (sections_in t) d.symbol) tagged false), symbol_fault t e SymbolKind)
    ∷ []

-- the symbol takes part in the test for names that occur twice, and has that name
abbrev pub is_named : List ℕ → List ℕ → Entry → Bool
is_named strings name e = is_external e.symbol && not (nat_eq e.symbol.SectionNumber IMAGE_SYM_DEBUG) && bytes_eq (name_of strings e) name

-- the conditions on the name of a symbol, where these are the symbols before it
abbrev pub name_conditions : Tables → List Entry → List ℕ → Entry → List Condition
name_conditions t earlier name e =
    (is_class IMAGE_SYM_CLASS_EXTERNAL e.symbol && is_uncarried (sections_in t) e.symbol, symbol_fault t e SymbolKind)
    ∷ (is_external e.symbol && is_nothing name, symbol_fault t e SymbolKind)
    ∷ (is_named t.strings name e && list_any (is_named t.strings name) earlier, symbol_fault t e DuplicateName)
    ∷ []

-- the conditions on a symbol
unfoldable pub symbol_conditions : Tables → List Entry → Entry → List Condition
symbol_conditions t earlier e =
    (nat_lt (length t.entries) (e.number + 1 + e.symbol.NumberOfAuxSymbols), symbol_fault t e BadSymbol)
    ∷ (is_none (symbol_name t.strings e.symbol.Name), symbol_fault t e BadName)
    ∷ (is_no_section (length t.sections) e.symbol.SectionNumber, symbol_fault t e BadSymbol)
    ∷ (not (is_known e.symbol), symbol_fault t e SymbolKind)
    ∷ (is_static e.symbol && is_undefined e.symbol, symbol_fault t e SymbolKind)
    ∷ (is_class IMAGE_SYM_CLASS_WEAK_EXTERNAL e.symbol && not (is_undefined e.symbol), symbol_fault t e SymbolKind)
    ∷ (is_past_end t e.symbol, symbol_fault t e SymbolPastEnd)
    ∷ (if is_class IMAGE_SYM_CLASS_WEAK_EXTERNAL e.symbol then tag_conditions t e (tagged_by (entries_in t) e) else [])
    ++ name_conditions t earlier (name_of t.strings e) e

-- the symbols in their order
abbrev pub symbol_stage : Tables → Stage
symbol_stage t = record {
  count = length (entries_in t);
  conditions = λ i. each_of (symbol_conditions t (take i (entries_in t))) (entries_in t) i;
}
