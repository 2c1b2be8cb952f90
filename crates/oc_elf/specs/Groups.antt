-- Groups of sections (gABI, "Section Groups"; our profile).
use Rattle.std.specs.{Prelude.{ℕ, ◌+◌, ◌-◌, ◌*◌, ◌/◌, Bool, ◌&&◌, nat_eq, bytes_eq, if◌then◌else◌, List, [], length, map, Option, None}, List.{range_with_len}}
use Rattle.std.specs.Option.{option_map, option_and_then}
use Rattle.oc_base.specs.Numbers.{number_at}
use Rattle.oc_strings.specs.Repeats.{NameList}
use Rattle.oc_shelf.specs.Reading.Firsts.{any_upto, first_place}
use Rattle.oc_elf.specs.{declared.constants.TheConstants.{GRP_COMDAT, GRP_ENTRY_SIZE, SHT_GROUP}, declared.shdr.Shdr.{Shdr}, declared.sym.Sym.{Sym}}
use Rattle.oc_elf.specs.{Frames.{FileFrame, header_at}, Sections.{is_type, section_name}, Tables.{entry_of}, Entries.{name_at, is_sectional, is_section_symbol}}

-- word i of the contents of a group
abbrev pub group_word : FileFrame → Shdr → ℕ → ℕ
group_word f s i = number_at f.file (s.sh_offset + GRP_ENTRY_SIZE * i) GRP_ENTRY_SIZE

-- how many members it has: a word for each after the first, which has flags
abbrev pub member_count : Shdr → ℕ
member_count s = s.sh_size / GRP_ENTRY_SIZE - 1

-- the section that is member i, counted from 0
abbrev pub member_at : FileFrame → Shdr → ℕ → ℕ
member_at f s i = group_word f s (i + 1)

-- section k is one of the first n members
abbrev pub has_member : FileFrame → Shdr → ℕ → ℕ → Bool
has_member f s n k = any_upto (λ i. nat_eq (member_at f s i) k) n

-- section k is a member of header g, where that is a group
abbrev pub is_member : FileFrame → ℕ → ℕ → Bool
is_member f k g = is_type SHT_GROUP (header_at f.headers g) && has_member f (header_at f.headers g) (member_count (header_at f.headers g)) k

-- the first group among the first n headers of which section k is a member
abbrev pub owner_among : FileFrame → ℕ → ℕ → Option ℕ
owner_among f n k = first_place (is_member f k) n

-- header g is a one-definition group; another group has no effect
abbrev pub is_comdat : FileFrame → ℕ → Bool
is_comdat f g = is_type SHT_GROUP (header_at f.headers g) && nat_eq (group_word f (header_at f.headers g) 0) GRP_COMDAT

-- the key by a signature: its name, or that of its section where it is a section's own without a name
abbrev pub key_by : FileFrame → Sym → List ℕ → List ℕ
key_by f s name = if is_section_symbol s && bytes_eq name [] && is_sectional s then section_name f (header_at f.headers s.st_shndx) else name

-- the key of header g, by the symbol that is its signature, if that has a name
unfoldable pub key_of : FileFrame → ℕ → Option (List ℕ)
key_of f g =
    let s : Sym = entry_of f (header_at f.headers g).sh_info in
    option_map (key_by f s) (name_at f s)

-- the key of header g, where it is a one-definition group
abbrev pub comdat_key : FileFrame → ℕ → Option (List ℕ)
comdat_key f g = if is_comdat f g then key_of f g else None

-- those of all headers
abbrev pub comdat_keys : FileFrame → NameList
comdat_keys f = map (comdat_key f) (range_with_len 0 (length f.headers))

-- the key of the group of section k, where it is in a one-definition group
abbrev pub group_key : FileFrame → ℕ → Option (List ℕ)
group_key f k = option_and_then (comdat_key f) (owner_among f (length f.headers) k)
