-- Symbols (Mach-O reference, "nlist"; our profile).
use Rattle.std.specs.Prelude.{ℕ, ◌-◌, ◌*◌, ◌/◌, ◌%◌, ◌^◌, Bool, false, not, ◌&&◌, ◌||◌, nat_eq, bytes_eq, if◌then◌else◌, List, [], filter_map, Option, Some, None}
use Rattle.std.specs.{Option.{option_map_or, unwrap_or}, List.{enumerate_from}}
use Rattle.oc_base.specs.{declared.format.Word.{Word}, declared.format.Word.TheVariants.{W32, W64}}
use Rattle.oc_linking.specs.{declared.terms.Mark.TheVariants.{NoType}, declared.terms.Visibility.TheVariants.{Default, Hidden}, declared.terms.Value.{Value}}
use Rattle.oc_linking.specs.{declared.terms.Binding.{Binding}, declared.terms.Binding.TheVariants.{Local, Global, Undefined, Common, Weak}, Parts.{Symbol}}
use Rattle.oc_linking.specs.declared.terms.Value.TheVariants as value
use Rattle.oc_linking.specs.declared.terms.Fallback.TheVariants as fallback
use Rattle.oc_neutral.specs.{KindRules.{has}, Mach.SectionSymbols.{section_symbol_name}}
use Rattle.oc_shelf.specs.Reading.Texts.{text_at}
use Rattle.oc_macho.specs.declared.constants.TheConstants.{N_UNDF, N_ABS, N_SECT, N_EXT, N_PEXT, N_WEAK_REF, N_WEAK_DEF}
use Rattle.oc_macho.specs.{declared.section_header.SectionHeader.{SectionHeader}, declared.nlist.Nlist.{Nlist}, Tables.{Tables}}
use Rattle.oc_macho.specs.Sections.{header_numbered, address_of}

-- the name of a symbol: the text at its place among the strings; none where no NUL ends it
unfoldable pub name_at : Tables → Nlist → Option (List ℕ)
name_at t s = text_at t.strings s.n_strx

-- the same, empty where there is none
abbrev pub name_of : Tables → Nlist → List ℕ
name_of t s = unwrap_or (name_at t s) []

-- an entry for debuggers: a bit of N_STAB (0xE0) is set
abbrev pub is_stab : Nlist → Bool
is_stab s = not (nat_eq (s.n_type / 2 ^ 5) 0)

-- the symbol has that type (N_TYPE 0x0E)
abbrev pub is_type : ℕ → Nlist → Bool
is_type type s = nat_eq (s.n_type / 2 % 8 * 2) type

-- it is seen by all files
abbrev pub is_external : Nlist → Bool
is_external s = has s.n_type N_EXT

-- its offset in its section
abbrev pub offset_of : Tables → Nlist → ℕ
offset_of t s = s.n_value - address_of t s.n_sect

-- its value is the address of its section
abbrev pub is_at_start : Tables → Nlist → Bool
is_at_start t s = option_map_or (λ (h : SectionHeader). nat_eq s.n_value h.addr) (header_numbered t s.n_sect) false

-- a symbol that is a Local `l_section_k` at the start of section k stands for that section
abbrev pub is_named_own : Tables → Nlist → Bool
is_named_own t s = not (is_stab s) && not (is_external s) && is_type N_SECT s && is_at_start t s && bytes_eq (name_of t s) (section_symbol_name s.n_sect)

-- and does so in 64 bits alone
abbrev pub is_own_in : Word → Tables → Nlist → Bool
is_own_in W32 t s = false
is_own_in W64 t s = is_named_own t s

unfoldable pub is_own : Tables → Nlist → Bool
is_own t s = is_own_in t.word t s

-- a symbol is carried: it is no stab, no section's own, and no Local without a name
abbrev pub is_carried : Tables → Nlist → Bool
is_carried t s = not (is_stab s) && not (is_own t s) && (is_external s || not (bytes_eq (name_of t s) []))

-- the value of a symbol that is defined
abbrev pub value_of : Tables → Nlist → Value
value_of t s = if is_type N_ABS s then value.Absolute s.n_value else value.Place (s.n_sect - 1) (offset_of t s)

-- the binding of a symbol without a section: a value is the size of a Common, whose alignment is in bits 8 to 11 of n_desc
abbrev pub outer_binding : Nlist → Binding
outer_binding s =
    if not (nat_eq s.n_value 0) then Common s.n_value (2 ^ (s.n_desc / 2 ^ 8 % 16))
    else (if has s.n_desc N_WEAK_REF then Weak fallback.Zero else Undefined)

-- the binding of an external symbol
abbrev pub external_binding : Tables → Nlist → Binding
external_binding t s =
    if is_type N_UNDF s then outer_binding s
    else (if is_type N_SECT s && has s.n_desc N_WEAK_DEF then Weak (fallback.Place (s.n_sect - 1) (offset_of t s)) else Global (value_of t s))

-- the binding of a symbol
unfoldable pub binding_of : Tables → Nlist → Binding
binding_of t s = if is_external s then external_binding t s else Local (value_of t s)

-- symbol number j, where it is carried; it is given whether a field takes its address
unfoldable pub symbol_of : Tables → Bool → ℕ → Nlist → Option Symbol
symbol_of t pinned j s = if is_carried t s then Some (record {
  name = name_of t s;
  binding = binding_of t s;
  mark = NoType;
  vis = if is_external s && has s.n_type N_PEXT then Hidden else Default;
  size = 0;
  pinned = pinned;
  number = j;
}) else None

-- the carried symbols
unfoldable pub symbols_by : Tables → (ℕ → Bool) → List Symbol
symbols_by t pinned = filter_map (λ (x : ℕ × Nlist). symbol_of t (pinned x.0) x.0 x.1) (enumerate_from 0 t.symbols)
