-- The entries of an output's symbol table (Mach-O reference, "nlist"; our profile).
use Rattle.std.specs.{Prelude.{ℕ, ◌+◌, ◌*◌, ◌^◌, nat_eq, if◌then◌else◌}, Option.{option_map_or, unwrap_or}}
use Rattle.oc_base.specs.declared.format.Word.{Word}
use Rattle.oc_linking.specs.{declared.terms.Visibility.{Visibility}, declared.terms.Visibility.TheVariants.{Default, Internal, Hidden, Protected}}
use Rattle.oc_linking.specs.{declared.terms.Value.{Value}, declared.terms.Fallback.{Fallback}, declared.terms.Binding.{Binding}}
use Rattle.oc_linking.specs.{declared.terms.Binding.TheVariants.{Local, Global, Undefined, Common, Weak}, Numbers.{first_from}}
use Rattle.oc_linking.specs.declared.terms.Value.TheVariants as value
use Rattle.oc_linking.specs.declared.terms.Fallback.TheVariants as fallback
use Rattle.oc_neutral.specs.{declared.symbol.Symbol.{Symbol}, Bindings.{is_zero}, Mach.SectionSymbols.{section_symbol_name}, Normal.{Place}, Objects.{Object}}
use Rattle.oc_shows.specs.{Manners.{mach_vis}, Seen.{place_at}}
use Rattle.oc_macho.specs.declared.constants.TheConstants.{MOST_ALIGN_EXPONENT, N_UNDF, N_ABS, N_SECT, N_EXT, N_PEXT, N_WEAK_REF, N_WEAK_DEF}
use Rattle.oc_macho.specs.declared.nlist.Nlist.{Nlist}
use Rattle.oc_macho_file.specs.{Addresses.{address_of}, Lines.{Line, OwnLine, LocalLine, OuterLine}, Layout.{line_names, offset_in}}

-- the exponent of an alignment, a power of two
unfoldable pub exponent_of : ℕ → ℕ
exponent_of align = unwrap_or (first_from (λ e. nat_eq align (2 ^ e)) 0 (MOST_ALIGN_EXPONENT + 1)) 0

-- what the type, n_sect and n_value say
pub record ValueFields : Type 0 where
  pub type : ℕ
  pub n_sect : ℕ
  pub n_value : ℕ

-- an offset in the section at a position: its address
abbrev pub value_fields_at : Object → ℕ → ℕ → ValueFields
value_fields_at n k offset = record { type = N_SECT; n_sect = k + 1; n_value = address_of n k + offset }

-- what is defined elsewhere; of a common the value is its size
abbrev pub value_fields_elsewhere : ℕ → ValueFields
value_fields_elsewhere size = record { type = N_UNDF; n_sect = 0; n_value = size }

-- a value
abbrev pub value_fields_by : Object → Value → ValueFields
value_fields_by n (value.Place k offset) = value_fields_at n k offset
value_fields_by n (value.Absolute a) = record { type = N_ABS; n_sect = 0; n_value = a }

-- a fallback: a Name lies where the Global that it names does
abbrev pub value_fields_for : Object → Fallback → ValueFields
value_fields_for n (fallback.Place k offset) = value_fields_at n k offset
value_fields_for n fallback.Zero = value_fields_elsewhere 0
value_fields_for n (fallback.Name k) = option_map_or (λ (place : Place). value_fields_at n place.0 place.1) (place_at n k) (value_fields_elsewhere 0)

-- a binding
abbrev pub value_fields_of : Object → Binding → ValueFields
value_fields_of n (Local v) = value_fields_by n v
value_fields_of n (Global v) = value_fields_by n v
value_fields_of n Undefined = value_fields_elsewhere 0
value_fields_of n (Common size align) = value_fields_elsewhere size
value_fields_of n (Weak f) = value_fields_for n f

-- it is external
abbrev pub external_flag : Binding → ℕ
external_flag (Local v) = 0
external_flag (Global v) = N_EXT
external_flag Undefined = N_EXT
external_flag (Common size align) = N_EXT
external_flag (Weak f) = N_EXT

-- it is seen within one program or library alone
abbrev pub private_flag : Visibility → ℕ
private_flag Default = 0
private_flag Internal = N_PEXT
private_flag Hidden = N_PEXT
private_flag Protected = 0

-- n_desc: that a definition gives way, or that none is needed; of a common the exponent of its alignment, in bits 8 to 11
abbrev pub desc_by : Binding → ℕ
desc_by (Local v) = 0
desc_by (Global v) = 0
desc_by Undefined = 0
desc_by (Common size align) = exponent_of align * 2 ^ 8
desc_by (Weak f) = if is_zero f then N_WEAK_REF else N_WEAK_DEF

-- the entry of a symbol
abbrev pub symbol_entry : Word → Object → Symbol → Nlist
symbol_entry w n s = record {
  n_strx = offset_in (line_names w n) s.name;
  n_type = (value_fields_of n s.binding).type + external_flag s.binding + private_flag (mach_vis s.binding s.vis);
  n_sect = (value_fields_of n s.binding).n_sect;
  n_desc = desc_by s.binding;
  n_value = (value_fields_of n s.binding).n_value;
}

-- that of the symbol of the section at a position, which lies at its start
abbrev pub own_entry : Word → Object → ℕ → Nlist
own_entry w n k = record { n_strx = offset_in (line_names w n) (section_symbol_name (k + 1)); n_type = N_SECT; n_sect = k + 1; n_desc = 0; n_value = address_of n k }

-- the entry of a line
unfoldable pub line_entry : Word → Object → Line → Nlist
line_entry w n (OwnLine k) = own_entry w n k
line_entry w n (LocalLine k s) = symbol_entry w n s
line_entry w n (OuterLine k s) = symbol_entry w n s
