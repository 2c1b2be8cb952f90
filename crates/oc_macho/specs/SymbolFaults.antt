-- What the symbols of a file must meet (Mach-O reference, "nlist"; our profile).
use Rattle.std.specs.Prelude.{ℕ, ◌+◌, ◌*◌, Bool, false, not, ◌&&◌, ◌||◌, nat_lt, if◌then◌else◌, bytes_eq, is_none, is_some, List, [], ◌∷◌, ◌++◌, length, map, slice_get, Option, Some, None}
use Rattle.std.specs.Option.{option_map_or}
use Rattle.oc_base.specs.{declared.code.Code.{Code}, declared.code.Code.TheVariants.{BadName, SymbolKind, BadSymbol, SymbolPastEnd, DuplicateName}}
use Rattle.oc_base.specs.{declared.fault.Phase.TheVariants.{Symbol}, declared.fault.Fault.{Fault}}
use Rattle.oc_linking.specs.FirstFault.{Condition, Stage}
use Rattle.oc_neutral.specs.KindRules.{has}
use Rattle.oc_strings.specs.Repeats.{NameList, repeat_at}
use Rattle.oc_macho.specs.{declared.constants.TheConstants.{N_UNDF, N_ABS, N_SECT, N_WEAK_DEF}, declared.section_header.SectionHeader.{SectionHeader}}
use Rattle.oc_macho.specs.{declared.nlist.Nlist.{Nlist}, Nlist.{nlist_size}, Tables.{Tables}, Sections.{header_numbered}}
use Rattle.oc_macho.specs.Symbols.{name_at, name_of, is_stab, is_type, is_external}

-- a fault of symbol number j
abbrev pub symbol_fault : Tables → ℕ → Code → Fault
symbol_fault t j code = record { phase = Symbol; index = j; code = code; place = t.symbols_at + nlist_size t.word * j }

-- the type is one that is not read, or is read with other flags only
abbrev pub is_odd : Nlist → Bool
is_odd s =
    not (is_type N_UNDF s || is_type N_ABS s || is_type N_SECT s) || (is_type N_UNDF s && not (is_external s)) || (is_type N_ABS s && is_external s && has s.n_desc N_WEAK_DEF)

-- the value is an address before the section or past its end
abbrev pub is_outside : Nlist → SectionHeader → Bool
is_outside s h = nat_lt s.n_value h.addr || nat_lt (h.addr + h.size) s.n_value

-- the name of an external symbol
abbrev pub public_name : Tables → Nlist → Option (List ℕ)
public_name t s = if not (is_stab s) && is_external s then Some (name_of t s) else None

-- those of all symbols
abbrev pub public_names : Tables → NameList
public_names t = map (public_name t) t.symbols

-- the conditions on symbol number j by its name and its type
abbrev pub kind_conditions : Tables → ℕ → Nlist → List Condition
kind_conditions t j s = (is_none (name_at t s), symbol_fault t j BadName) ∷ (is_odd s, symbol_fault t j SymbolKind) ∷ []

-- by its section
abbrev pub home_conditions : Tables → ℕ → Nlist → List Condition
home_conditions t j s =
    (is_type N_SECT s && is_none (header_numbered t s.n_sect), symbol_fault t j BadSymbol)
    ∷ (is_type N_SECT s && option_map_or (is_outside s) (header_numbered t s.n_sect) false, symbol_fault t j SymbolPastEnd)
    ∷ []

-- and by its name beside others, where it is given whether an earlier external symbol has it
abbrev pub name_conditions : Tables → ℕ → Nlist → Bool → List Condition
name_conditions t j s again = (is_external s && bytes_eq (name_of t s) [], symbol_fault t j SymbolKind) ∷ (again, symbol_fault t j DuplicateName) ∷ []

-- all of them; a stab is passed over
unfoldable pub symbol_conditions : Tables → ℕ → Nlist → Bool → List Condition
symbol_conditions t j s again = if is_stab s then [] else kind_conditions t j s ++ (home_conditions t j s ++ name_conditions t j s again)

-- the conditions on symbol number j
abbrev pub conditions_at : Tables → ℕ → List Condition
conditions_at t j = option_map_or (λ s. symbol_conditions t j s (is_some (repeat_at (public_names t) j))) (slice_get t.symbols j) []

-- the stage of symbols
abbrev pub symbol_stage : Tables → Stage
symbol_stage t = record { count = length t.symbols; conditions = conditions_at t }
