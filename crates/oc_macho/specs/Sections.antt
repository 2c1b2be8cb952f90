-- Sections (Mach-O reference, "section"; our profile). All of them are carried.
use Rattle.std.specs.Prelude.{ℕ, ◌+◌, ◌-◌, ◌^◌, Bool, ◌&&◌, ◌||◌, nat_eq, nat_le, nat_lt, if◌then◌else◌, List, map, find, replicate, slice_get, Option, None}
use Rattle.std.specs.{List.{before_first, enumerate_from}, Option.{option_map, option_map_or}}
use Rattle.oc_linking.specs.{declared.terms.Keep.{Keep}, declared.terms.Kind.{Kind}, Keeping.{keeps}, Numbers.{or_else}, Parts.{Section}}
use Rattle.oc_neutral.specs.Mach.Kinds.{mach_name, mach_kind, mach_tag, is_zerofill_tag}
use Rattle.oc_macho.specs.{declared.section_header.SectionHeader.{SectionHeader}, Tables.{SectionTable, Tables}}

-- the bytes before the first NUL, or all
abbrev pub until_nul : List ℕ → List ℕ
until_nul bytes = before_first (λ c. nat_eq c 0) bytes

-- the names of a section and of its segment
abbrev pub section_name : SectionHeader → List ℕ
section_name h = until_nul h.sectname

abbrev pub segment_name : SectionHeader → List ℕ
segment_name h = until_nul h.segname

-- the kind of a section
unfoldable pub kind_of : SectionHeader → Kind
kind_of h = mach_kind (segment_name h) (section_name h) h.flags

-- a section of type ZEROFILL has no bytes in the file
abbrev pub is_zerofill : SectionHeader → Bool
is_zerofill h = is_zerofill_tag h.flags

-- its kind is kept
abbrev pub is_kept : Keep → SectionTable → Bool
is_kept keep x = keeps keep (kind_of x.header)

-- the contents of a section: of one of type ZEROFILL, zeros
unfoldable pub contents_of : SectionTable → List ℕ
contents_of x = if is_zerofill x.header then replicate x.header.size 0 else x.raw

-- section number k; a Mach-O section is in no group
unfoldable pub section_of : ℕ × SectionTable → Section
section_of x = record {
  name = mach_name (segment_name x.1.header) (section_name x.1.header);
  kind = kind_of x.1.header;
  align = 2 ^ x.1.header.align;
  size = x.1.header.size;
  contents = contents_of x.1;
  tag = mach_tag x.1.header.flags;
  number = x.0;
  group = None;
}

-- the sections
unfoldable pub sections_in : Tables → List Section
sections_in t = map section_of (enumerate_from 1 t.sections)

-- the header of section number k
abbrev pub header_numbered : Tables → ℕ → Option SectionHeader
header_numbered t k = if nat_eq k 0 then None else option_map (λ (x : SectionTable). x.header) (slice_get t.sections (k - 1))

-- the address that the file gives to it
abbrev pub address_of : Tables → ℕ → ℕ
address_of t k = option_map_or (λ (h : SectionHeader). h.addr) (header_numbered t k) 0

-- ... which section holds an address of the file

-- the address is that of a byte of the section
abbrev pub lies_in : ℕ → ℕ × SectionTable → Bool
lies_in v x = nat_le x.1.header.addr v && nat_lt v (x.1.header.addr + x.1.header.size)

-- it is where the section begins, or where it ends
abbrev pub lies_at : ℕ → ℕ × SectionTable → Bool
lies_at v x = nat_eq v x.1.header.addr || nat_eq v (x.1.header.addr + x.1.header.size)

-- the first section of which it is the address of a byte, or else the first that begins or ends there
unfoldable pub holder_of : Tables → ℕ → Option ℕ
holder_of t v = option_map (λ (x : ℕ × SectionTable). x.0) (or_else (find (lies_in v) (enumerate_from 1 t.sections)) (find (lies_at v) (enumerate_from 1 t.sections)))
