-- Sections (PE/COFF, "Section Table" and "Section Flags"; our profile).
use Rattle.std.specs.Prelude.{ℕ, ◌+◌, ◌-◌, ◌/◌, ◌%◌, ◌^◌, Bool, false, not, ◌&&◌, nat_eq, nat_le, if◌then◌else◌, List, [], ◌∷◌, map, replicate, Option, Some, None, filter_map}
use Rattle.std.specs.{Option.{option_map, option_map_or, option_and_then, unwrap_or}, List.{enumerate_from}}
use Rattle.oc_linking.specs.{declared.terms.Kind.{Kind}, declared.terms.Kind.TheVariants.{Zero}, Parts.{Section}}
use Rattle.oc_neutral.specs.{KindRules.{same_kind}, Coff.Kinds.{coff_kind, coff_tag}, declared.coff.TheConstants.{IMAGE_SCN_ALIGN_1BYTES}}
use Rattle.oc_coff.specs.{declared.constants.TheConstants.{IMAGE_SYM_SECTION_MAX_EX}, declared.section_header.SectionHeader.{SectionHeader}}
use Rattle.oc_coff.specs.{declared.relocation.Relocation.{Relocation}, Tables.{SectionTable, Tables}, Names.{section_name}, Comdat.{key_in}}

-- the alignment in a section's flags, four bits
abbrev pub align_bits : ℕ → ℕ
align_bits flags = flags / IMAGE_SCN_ALIGN_1BYTES % 16

-- the alignment: n is 2^(n - 1), and 0 is 16
abbrev pub align_of : ℕ → ℕ
align_of flags = if nat_eq (align_bits flags) 0 then 16 else 2 ^ (align_bits flags - 1)

-- the kind of a section that is carried
unfoldable pub kind_in : List ℕ → SectionHeader → Option Kind
kind_in strings h = option_and_then (λ name. coff_kind name h.Characteristics) (section_name strings h.Name)

-- a section has bytes in the file: it has a pointer to them, and is not Zero
abbrev pub is_stored : Option Kind → SectionHeader → Bool
is_stored kind h = not (nat_eq h.PointerToRawData 0) && not (option_map_or (same_kind Zero) kind false)

-- a section that is carried, whether it has bytes in the file, and its relocation entries
pub record Carried : Type 0 where
  pub section : Section
  pub stored : Bool
  pub relocs_at : ℕ
  pub relocs : List Relocation

-- section number k, of a kind
abbrev pub section_of : Tables → ℕ → SectionTable → Kind → Section
section_of t k x kind = record {
  name = unwrap_or (section_name t.strings x.header.Name) [];
  kind = kind;
  align = align_of x.header.Characteristics;
  size = x.header.SizeOfRawData;
  contents = if is_stored (Some kind) x.header then x.raw else replicate x.header.SizeOfRawData 0;
  tag = coff_tag x.header.Characteristics;
  number = k;
  group = key_in t k;
}

-- a section with its number, where it is carried
unfoldable pub carried_of : Tables → ℕ × SectionTable → Option Carried
carried_of t x =
    option_map
    (λ kind. record { section = section_of t x.0 x.1 kind; stored = is_stored (Some kind) x.1.header; relocs_at = x.1.relocs_at; relocs = x.1.relocs })
    (kind_in t.strings x.1.header)

-- the carried sections
unfoldable pub carried_in : Tables → List Carried
carried_in t = filter_map (carried_of t) (enumerate_from 1 t.sections)

-- as linking sees them
abbrev pub sections_in : Tables → List Section
sections_in t = map (λ (c : Carried). c.section) (carried_in t)

-- the position of section number k, from position i on
abbrev pub position_from : ℕ → List Section → ℕ → Option ℕ
position_from i [] k = None
position_from i (s ∷ sections) k = if nat_eq s.number k then Some i else position_from (i + 1) sections k

-- the position of section number k among the carried ones, where it is carried and a symbol can name it
unfoldable pub position_of : List Section → ℕ → Option ℕ
position_of sections k = if nat_le k IMAGE_SYM_SECTION_MAX_EX then position_from 0 sections k else None
