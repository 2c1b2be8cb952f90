-- Conditions on symbols (gABI, "Symbol Table"; our profile).
use Rattle.std.specs.Prelude.{ℕ, Bool, true, false, not, ◌&&◌, ◌||◌, nat_eq, nat_lt, is_some, bytes_eq, if◌then◌else◌, List, [], ◌∷◌, ◌++◌, length, map, Option, Some, None}
use Rattle.std.specs.{List.{range_with_len}, Option.{option_map_or}}
use Rattle.oc_base.specs.declared.code.Code.{Code}
use Rattle.oc_base.specs.declared.code.Code.TheVariants.{BadName, BadSymbol, SymbolKind, SymbolPastEnd, BadCommon, DuplicateName, Group}
use Rattle.oc_base.specs.{declared.fault.Fault.{Fault}, declared.fault.Phase.TheVariants.{Symbol as SymbolPhase}}
use Rattle.oc_linking.specs.FirstFault.{Condition, Stage}
use Rattle.oc_strings.specs.{declared.repeats.Repeat.{Repeat}, Repeats.{NameList, repeat_at}}
use Rattle.oc_shelf.specs.Reading.Firsts.{any_upto}
use Rattle.oc_neutral.specs.declared.elf.TheConstants.{ALIGN_BITS}
use Rattle.oc_elf.specs.declared.constants.TheConstants.{SHN_LORESERVE}
use Rattle.oc_elf.specs.declared.constants.TheConstants.{EXTENDED_ZERO, SHN_UNDEF, SHN_ABS, SHN_COMMON, STB_WEAK, STT_FILE, STT_COMMON}
use Rattle.oc_elf.specs.{declared.sym.Sym.{Sym}, Sym.{bind_of, type_of}, Frames.{FileFrame, header_at}, Sections.{is_carried}, SectionRules.{is_power}}
use Rattle.oc_elf.specs.{Tables.{symtab_of, symbol_count, symbol_place, entry_of}, Entries.{name_at, name_of, is_local_entry, is_sectional, is_section_symbol}}
use Rattle.oc_elf.specs.Groups.{is_comdat, comdat_key, comdat_keys}

-- a fault of symbol k
abbrev pub symbol_fault : Code → ℕ → ℕ → Fault
symbol_fault code k place = record { phase = SymbolPhase; index = k; code = code; place = place }

-- two tests agree
abbrev pub agree : Bool → Bool → Bool
agree true b = b
agree false b = not b

-- one of the numbers that are no section's, but for ABS and COMMON
abbrev pub is_reserved : Sym → Bool
is_reserved s = not (nat_lt s.st_shndx SHN_LORESERVE || nat_eq s.st_shndx SHN_ABS || nat_eq s.st_shndx SHN_COMMON)

-- a kind of symbol that is left out
unfoldable pub is_odd_symbol : Sym → Bool
is_odd_symbol s =
    nat_lt STB_WEAK (bind_of s) || nat_lt STT_COMMON (type_of s)
    || nat_eq (bind_of s) STB_WEAK && (nat_eq s.st_shndx SHN_ABS || nat_eq s.st_shndx SHN_COMMON)
    || is_local_entry s && (nat_eq s.st_shndx SHN_COMMON || nat_eq s.st_shndx SHN_UNDEF && not (nat_eq (type_of s) STT_FILE))
    || is_section_symbol s && not (is_local_entry s) || is_reserved s

-- the conditions that a symbol meets by its name, binding, type and section
abbrev pub kind_conditions : FileFrame → ℕ → ℕ → Sym → List Condition
kind_conditions f k place s =
    (not (is_some (name_at f s)), symbol_fault BadName k place)
    ∷ (not (agree (is_local_entry s) (nat_lt k (symtab_of f).sh_info)), symbol_fault BadSymbol k place)
    ∷ (is_odd_symbol s, symbol_fault SymbolKind k place)
    ∷ (is_sectional s && not (nat_lt s.st_shndx (length f.headers) || nat_eq s.st_shndx EXTENDED_ZERO), symbol_fault BadSymbol k place)
    ∷ []

-- and by its value
abbrev pub value_conditions : FileFrame → ℕ → ℕ → Sym → List Condition
value_conditions f k place s =
    (is_sectional s && not (is_local_entry s) && not (is_carried (header_at f.headers s.st_shndx)), symbol_fault SymbolKind k place)
    ∷ (is_sectional s && nat_lt (header_at f.headers s.st_shndx).sh_size s.st_value, symbol_fault SymbolPastEnd k place)
    ∷ (nat_eq s.st_shndx SHN_COMMON && not (is_power ALIGN_BITS s.st_value), symbol_fault BadCommon k place)
    ∷ (not (is_local_entry s) && bytes_eq (name_of f s) [], symbol_fault SymbolKind k place)
    ∷ []

-- the conditions that a symbol meets by itself
unfoldable pub entry_conditions : FileFrame → ℕ → ℕ → Sym → List Condition
entry_conditions f k place s = kind_conditions f k place s ++ value_conditions f k place s

-- the name of symbol k, where it is nonlocal; entry 0 is no symbol
abbrev pub public_name : FileFrame → ℕ → Option (List ℕ)
public_name f k = if nat_eq k 0 || is_local_entry (entry_of f k) then None else Some (name_of f (entry_of f k))

-- those of all symbols
abbrev pub public_names : FileFrame → NameList
public_names f = map (public_name f) (range_with_len 0 (symbol_count f))

-- a repeat ends at a position
abbrev pub ends_at : Option Repeat → ℕ → Bool
ends_at found k = option_map_or (λ (r : Repeat). nat_eq r.later k) found false

-- header g is a one-definition group without a key, or with that of one before
abbrev pub is_bad_key : FileFrame → ℕ → Bool
is_bad_key f g = option_map_or (λ key. bytes_eq key []) (comdat_key f g) false || is_some (repeat_at (comdat_keys f) g)

-- symbol k is the signature of such a group, among the first n headers
abbrev pub is_bad_signature : FileFrame → ℕ → ℕ → Bool
is_bad_signature f n k = any_upto (λ g. is_comdat f g && nat_eq (header_at f.headers g).sh_info k && is_bad_key f g) n

-- the conditions that a symbol meets beside others: its name is no other's, and it names no group in vain
abbrev pub other_conditions : FileFrame → ℕ → ℕ → List Condition
other_conditions f k place =
    (is_some (repeat_at (public_names f) k), symbol_fault DuplicateName k place)
    ∷ (is_bad_signature f (length f.headers) k, symbol_fault Group k place)
    ∷ []

-- the conditions on symbol k
unfoldable pub symbol_conditions : FileFrame → ℕ → List Condition
symbol_conditions f k =
    if nat_eq k 0 then [] else entry_conditions f k (symbol_place f k) (entry_of f k) ++ other_conditions f k (symbol_place f k)

-- the stage of symbols
abbrev pub symbol_stage : FileFrame → Stage
symbol_stage f = record { count = symbol_count f; conditions = symbol_conditions f }
