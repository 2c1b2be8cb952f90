-- What relocation entries refer to (Mach-O reference, "Relocation Data Structures"; our profile).
use Rattle.std.specs.{Prelude.{ℕ, ◌-◌, nat_eq, false, if◌then◌else◌, slice_get, Option, Some, None}, Option.{option_map, option_and_then}}
use Rattle.oc_linking.specs.{declared.terms.Binding.{Binding}, declared.terms.Binding.TheVariants.{Local, Global, Undefined, Common, Weak}, Parts.{Symbol}}
use Rattle.oc_linking.specs.Targets.{Target, symbol_target}
use Rattle.oc_neutral.specs.Normal.{Place, place_of}
use Rattle.oc_shows.specs.RowFields.{place_target}
use Rattle.oc_macho.specs.{declared.nlist.Nlist.{Nlist}, declared.relocation_info.Reference.{Reference}}
use Rattle.oc_macho.specs.{declared.relocation_info.RelocationInfo.{RelocationInfo}, Tables.{Tables}, Sections.{header_numbered, address_of, holder_of}}
use Rattle.oc_macho.specs.Symbols.{is_own, symbol_of}
use Rattle.oc_macho.specs.declared.relocation_info.Reference.TheVariants as reference

-- what an entry refers to
pub record Aim : Type 0 where
  pub target : Target
  -- where the entry refers to a section, the address that the file gives to it: the field counts it in
  pub counted : Option ℕ
  -- the place that no other definition can change, where it has one
  pub place : Option Place

-- the start of the section at a position, where the field counts this address in
abbrev pub section_aim : Tables → ℕ → Option ℕ → Aim
section_aim t s counted = record { target = place_target t.word s 0; counted = counted; place = Some (s, 0) }

-- the place of a Local or a Global
abbrev pub fixed_place : Binding → Option Place
fixed_place (Local v) = place_of v
fixed_place (Global v) = place_of v
fixed_place Undefined = None
fixed_place (Common size align) = None
fixed_place (Weak f) = None

-- a carried symbol, where it is no absolute Local
abbrev pub symbol_aim : Symbol → Option Aim
symbol_aim s = option_map (λ target. record { target = target; counted = None; place = fixed_place s.binding }) (symbol_target s)

-- symbol number j: a section's own stands for the section, and one that is not carried for nothing
abbrev pub aim_of : Tables → ℕ → Nlist → Option (Option Aim)
aim_of t j s = if is_own t s then Some (Some (section_aim t (s.n_sect - 1) None)) else option_map symbol_aim (symbol_of t false j s)

-- section number k, with its address counted; 0 is one to which no field can refer
abbrev pub numbered_aim : Tables → ℕ → Option (Option Aim)
numbered_aim t k = if nat_eq k 0 then Some None else option_map (λ h. Some (section_aim t (k - 1) (Some (address_of t k)))) (header_numbered t k)

-- what a reference is to: nothing; or something to which no field can refer; or something to which one can
unfoldable pub aim_in : Tables → Reference → Option (Option Aim)
aim_in t (reference.Symbol j) = option_and_then (aim_of t j) (slice_get t.symbols j)
aim_in t (reference.Section k) = numbered_aim t k
aim_in t (reference.Address v) = option_and_then (numbered_aim t) (holder_of t v)

-- the same, where a field can refer to it
abbrev pub target_in : Tables → RelocationInfo → Option Aim
target_in t e = option_and_then (λ aim. aim) (aim_in t e.refers)
