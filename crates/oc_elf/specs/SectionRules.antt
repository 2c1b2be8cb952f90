-- Conditions on section headers (gABI, "Sections"; our profile).
use Rattle.std.specs.Prelude.{ℕ, ◌+◌, ◌/◌, ◌%◌, ◌^◌, Bool, false, not, ◌&&◌, ◌||◌, nat_eq, nat_lt, nat_le, is_some, if◌then◌else◌, List, [], ◌∷◌, ◌++◌, length}
use Rattle.std.specs.{List.{list_any}, Option.{option_map_or}}
use Rattle.oc_base.specs.declared.code.Code.{Code}
use Rattle.oc_base.specs.declared.code.Code.TheVariants.{Short, BadName, Group, ExtendedNumbering, SectionKind, BadTable, BadAlign, AlignRange, LimitSection, LimitSum, LimitBytes}
use Rattle.oc_base.specs.{declared.fault.Fault.{Fault}, declared.fault.Phase.TheVariants.{Section as SectionPhase}}
use Rattle.oc_base.specs.declared.limits.TheConstants.{MOST_CONTENTS}
use Rattle.oc_linking.specs.{Numbers.{first_from}, FirstFault.{Condition, Stage}}
use Rattle.oc_neutral.specs.{declared.elf.TheConstants.{SHT_NOBITS, SHF_ALLOC, ALIGN_BITS}, KindRules.{has}, Building.{is_zero}, Elf.Kinds.{carried_types}}
use Rattle.oc_shelf.specs.{Reading.Firsts.{any_upto}, Reading.Sums.{sum_upto}}
use Rattle.oc_elf.specs.declared.constants.TheConstants.{SHT_NULL, SHT_SYMTAB, SHT_STRTAB, SHT_RELA, SHT_REL, SHT_GROUP, SHT_SYMTAB_SHNDX, SHNDX_SIZE, SHF_LINK_ORDER, SHF_TLS, SHF_COMPRESSED}
use Rattle.oc_elf.specs.{declared.constants.TheConstants.{GRP_COMDAT, GRP_ENTRY_SIZE, MOST_SIZE, MOST_SIZES}, declared.shdr.Shdr.{Shdr}}
use Rattle.oc_elf.specs.{Classes.{is_big, reloc_type, foreign_type, word_of}, Sym.{sym_size}, Rel.{rel_size}, Names.{name_in}}
use Rattle.oc_elf.specs.{Frames.{FileFrame, header_at, header_place}, Sections.{is_type, is_carried, kind_of, shndx_number, table_among, symtab_among}}
use Rattle.oc_elf.specs.{Tables.{entry_count}, Groups.{group_word, member_count, member_at, has_member, owner_among}}

-- a fault of section header k, at a place or with a number
abbrev pub section_fault : Code → ℕ → ℕ → Fault
section_fault code k place = record { phase = SectionPhase; index = k; code = code; place = place }

-- ... each header

-- the types that have a name here
abbrev pub known_types : List ℕ
known_types = SHT_NULL ∷ SHT_SYMTAB ∷ SHT_STRTAB ∷ SHT_RELA ∷ SHT_REL ∷ SHT_GROUP ∷ SHT_SYMTAB_SHNDX ∷ carried_types

-- the section takes bytes of the file
abbrev pub has_bytes : Shdr → Bool
has_bytes s = not (is_type SHT_NULL s || is_type SHT_NOBITS s)

-- a flag is set
abbrev pub has_flag : Shdr → ℕ → Bool
has_flag s flag = has s.sh_flags flag

-- whole entries of that size
abbrev pub has_entries : ℕ → Shdr → Bool
has_entries size s = nat_eq s.sh_entsize size && nat_eq (s.sh_size % size) 0

-- a number that no section can be a member by, or that is a member of a group before, or twice: member i of the group with header k
unfoldable pub is_bad_member : FileFrame → ℕ → Shdr → ℕ → Bool
is_bad_member f k s i =
    nat_eq (member_at f s i) 0 || nat_le (length f.headers) (member_at f s i) || has_member f s i (member_at f s i) || is_some (owner_among f k (member_at f s i))

-- words of four bytes, at least one, with a symbol of a symbol table for a signature
unfoldable pub is_good_group : FileFrame → Shdr → Bool
is_good_group f s =
    has_entries GRP_ENTRY_SIZE s && nat_le GRP_ENTRY_SIZE s.sh_size && is_type SHT_SYMTAB (header_at f.headers s.sh_link) && not (nat_eq s.sh_info 0)
    && nat_lt s.sh_info (entry_count f (header_at f.headers s.sh_link))

-- a kind of section that is left out: thread-local, compressed, ordered by another, zeros that are not allocated, relocations in the
-- form of the other word, and what is allocated and of a type that has no name here
unfoldable pub is_left_out : FileFrame → Shdr → Bool
is_left_out f s =
    has_flag s SHF_TLS || has_flag s SHF_COMPRESSED || has_flag s SHF_LINK_ORDER || is_type SHT_NOBITS s && not (has_flag s SHF_ALLOC)
    || is_type (foreign_type (word_of f.class)) s || not (list_any (nat_eq s.sh_type) known_types) && has_flag s SHF_ALLOC

-- the conditions on each header
unfoldable pub form_conditions : FileFrame → ℕ → ℕ → Shdr → List Condition
form_conditions f k place s =
    (has_bytes s && nat_lt (length f.file) (s.sh_offset + s.sh_size), section_fault Short k s.sh_offset)
    ∷ (not (is_some (name_in f.file f.names s.sh_name)), section_fault BadName k place)
    ∷ (is_type SHT_SYMTAB_SHNDX s && not (is_big f.class), section_fault ExtendedNumbering k place)
    ∷ []

-- ... groups

-- the conditions on groups; a first word other than 0 and COMDAT has a meaning that is not known here
unfoldable pub group_conditions : FileFrame → ℕ → ℕ → Shdr → List Condition
group_conditions f k place s =
    if is_type SHT_GROUP s then (
    (not (is_good_group f s), section_fault BadTable k place)
    ∷ (any_upto (is_bad_member f k s) (member_count s), section_fault BadTable k place)
    ∷ (not (nat_eq (group_word f s 0) 0 || nat_eq (group_word f s 0) GRP_COMDAT), section_fault Group k place)
    ∷ []
    ) else []

-- ... tables

-- a symbol table with whole entries, its names in a string table, and none before it
unfoldable pub is_good_symtab : FileFrame → ℕ → Shdr → Bool
is_good_symtab f k s = has_entries (sym_size (word_of f.class)) s && is_type SHT_STRTAB (header_at f.headers s.sh_link) && not (is_some (symtab_among f k))

-- a relocation table with whole entries, its symbols in a symbol table, of a section that exists and has no such table before it
unfoldable pub is_good_table : FileFrame → ℕ → Shdr → Bool
is_good_table f k s =
    has_entries (rel_size (word_of f.class)) s && is_type SHT_SYMTAB (header_at f.headers s.sh_link) && nat_lt s.sh_info (length f.headers)
    && not (is_some (table_among f k s.sh_info))

-- a table of section numbers with whole entries, one for each symbol of a symbol table, and none before it
unfoldable pub is_good_shndx : FileFrame → ℕ → Shdr → Bool
is_good_shndx f k s =
    has_entries SHNDX_SIZE s && is_type SHT_SYMTAB (header_at f.headers s.sh_link)
    && nat_le ((header_at f.headers s.sh_link).sh_size / sym_size (word_of f.class)) (s.sh_size / SHNDX_SIZE)
    && option_map_or (λ j. nat_eq j k) (shndx_number f.class f.headers) false

-- the conditions on kinds and on tables
unfoldable pub table_conditions : FileFrame → ℕ → ℕ → Shdr → List Condition
table_conditions f k place s =
    (is_left_out f s, section_fault SectionKind k place)
    ∷ (is_type SHT_SYMTAB s && not (is_good_symtab f k s), section_fault BadTable k place)
    ∷ (is_type (reloc_type (word_of f.class)) s && not (is_good_table f k s), section_fault BadTable k place)
    ∷ (is_type SHT_SYMTAB_SHNDX s && not (is_good_shndx f k s), section_fault BadTable k place)
    ∷ []

-- ... carried sections

-- a power of two from 2^0 to 2^n
abbrev pub is_power : ℕ → ℕ → Bool
is_power n a = is_some (first_from (λ e. nat_eq a (2 ^ e)) 0 (n + 1))

-- 0 or a power of two
abbrev pub is_alignment : ℕ → Bool
is_alignment a = nat_eq a 0 || is_power 63 a

-- what a section counts against the limit on sizes, and against that on bytes
abbrev pub size_counted : FileFrame → ℕ → ℕ
size_counted f k = if is_carried (header_at f.headers k) then (header_at f.headers k).sh_size else 0

abbrev pub bytes_counted : FileFrame → ℕ → ℕ
bytes_counted f k =
    if is_carried (header_at f.headers k) && not (is_zero (kind_of f (header_at f.headers k))) then (header_at f.headers k).sh_size else 0

-- what the sections up to and with section k count
abbrev pub sum_with : (ℕ → ℕ) → ℕ → ℕ
sum_with worth k = sum_upto worth k + worth k

-- the limits on a section of that size, with which there are so many bytes of sizes and so many of contents
abbrev pub limits_by : ℕ → ℕ → ℕ → ℕ → List Condition
limits_by k size sizes bytes =
    (nat_lt MOST_SIZE size, section_fault LimitSection k size)
    ∷ (nat_lt MOST_SIZES sizes, section_fault LimitSum k sizes)
    ∷ (nat_lt MOST_CONTENTS bytes, section_fault LimitBytes k bytes)
    ∷ []

-- the conditions on carried sections
unfoldable pub carried_conditions : FileFrame → ℕ → ℕ → Shdr → List Condition
carried_conditions f k place s =
    if is_carried s then (
    (not (is_alignment s.sh_addralign), section_fault BadAlign k place)
    ∷ (nat_lt (2 ^ ALIGN_BITS) s.sh_addralign, section_fault AlignRange k place)
    ∷ limits_by k s.sh_size (sum_with (size_counted f) k) (sum_with (bytes_counted f) k)
    ) else []

-- ... all

-- the conditions on a section, in four lists
unfoldable pub conditions_on : FileFrame → ℕ → ℕ → Shdr → List Condition
conditions_on f k place s = form_conditions f k place s ++ (group_conditions f k place s ++ (table_conditions f k place s ++ carried_conditions f k place s))

-- the conditions on section k; header 0 is that of no section
unfoldable pub section_conditions : FileFrame → ℕ → List Condition
section_conditions f k = if nat_eq k 0 then [] else conditions_on f k (header_place (word_of f.class) f.file k) (header_at f.headers k)

-- the stage of section headers
abbrev pub section_stage : FileFrame → Stage
section_stage f = record { count = length f.headers; conditions = section_conditions f }
