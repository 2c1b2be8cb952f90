-- The symbols that are carried (gABI, "Symbol Table"; our profile).
use Rattle.std.specs.{Prelude.{ℕ, false, ◌&&◌, ◌||◌, nat_eq, nat_lt, Bool, bytes_eq, if◌then◌else◌, List, [], Option, Some, None}, Option.{option_map}}
use Rattle.oc_linking.specs.{declared.terms.Value.{Value}, declared.terms.Binding.{Binding}}
use Rattle.oc_linking.specs.{declared.terms.Binding.TheVariants.{Local, Global, Undefined, Common, Weak}, Parts.{Symbol}}
use Rattle.oc_linking.specs.declared.terms.Value.TheVariants as value
use Rattle.oc_linking.specs.declared.terms.Fallback.TheVariants as fallback
use Rattle.oc_shelf.specs.Reading.Collected.{collected, position_in}
use Rattle.oc_elf.specs.declared.constants.TheConstants.{SHN_LORESERVE, SHN_UNDEF, SHN_ABS, SHN_COMMON, STB_WEAK, STT_FILE}
use Rattle.oc_elf.specs.{declared.sym.Sym.{Sym}, Sym.{bind_of, type_of}, Frames.{FileFrame}, Tables.{symbol_count, entry_of}}
use Rattle.oc_elf.specs.{Entries.{name_of, is_local_entry, is_section_symbol, mark_of, visibility_of}, CarriedSections.{position_of}}

-- the position of a symbol's section among the carried ones
abbrev pub home_of : FileFrame → Sym → Option ℕ
home_of f s = if nat_lt s.st_shndx SHN_LORESERVE then position_of f s.st_shndx else None

-- the value that a section or the number ABS gives
abbrev pub value_of : FileFrame → Sym → Option Value
value_of f s = if nat_eq s.st_shndx SHN_ABS then Some (value.Absolute s.st_value) else option_map (λ p. value.Place p s.st_value) (home_of f s)

-- the binding of a nonlocal symbol that is defined, by its st_info's binding
abbrev pub defined_as : ℕ → Value → Binding
defined_as bind (value.Place p offset) = if nat_eq bind STB_WEAK then Weak (fallback.Place p offset) else Global (value.Place p offset)
defined_as bind (value.Absolute n) = Global (value.Absolute n)

-- the binding of a nonlocal symbol; the value of a common is its alignment
abbrev pub public_binding : FileFrame → Sym → Option Binding
public_binding f s =
    if nat_eq s.st_shndx SHN_UNDEF then Some (if nat_eq (bind_of s) STB_WEAK then Weak fallback.Zero else Undefined)
    else (if nat_eq s.st_shndx SHN_COMMON then Some (Common s.st_size s.st_value) else option_map (defined_as (bind_of s)) (value_of f s))

-- the binding of a symbol; none of a Local of a section that is not carried
unfoldable pub binding_of : FileFrame → Sym → Option Binding
binding_of f s = if is_local_entry s then option_map (λ v. Local v) (value_of f s) else public_binding f s

-- the symbol is passed over: a FILE, a section's own, or a Local without a name
unfoldable pub is_passed : FileFrame → Sym → Bool
is_passed f s = nat_eq (type_of s) STT_FILE || is_section_symbol s || is_local_entry s && bytes_eq (name_of f s) []

-- symbol k with a binding
unfoldable pub symbol_with : FileFrame → ℕ → Sym → Binding → Symbol
symbol_with f k s binding = record {
  name = name_of f s;
  binding = binding;
  mark = mark_of s;
  vis = visibility_of s;
  size = s.st_size;
  pinned = false;
  number = k;
}

-- the symbol of an entry of that number, where it is carried
unfoldable pub symbol_by : FileFrame → ℕ → Sym → Option Symbol
symbol_by f k s = if is_passed f s then None else option_map (symbol_with f k s) (binding_of f s)

-- symbol k, where it is carried; entry 0 is no symbol
unfoldable pub symbol_of : FileFrame → ℕ → Option Symbol
symbol_of f k = if nat_eq k 0 then None else symbol_by f k (entry_of f k)

-- the carried symbols
abbrev pub symbols_of : FileFrame → List Symbol
symbols_of f = collected (symbol_of f) (symbol_count f)

-- the position of symbol k among the carried ones, where it is one
abbrev pub symbol_position : FileFrame → ℕ → Option ℕ
symbol_position f k = position_in (symbol_of f) k
