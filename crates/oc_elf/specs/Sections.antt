-- Sections and the tables that go with them (gABI, "Sections"; our profile).
use Rattle.std.specs.{Prelude.{ℕ, Bool, nat_eq, if◌then◌else◌, List, [], length, take, drop, replicate, Option, Some, None}, Option.{unwrap_or, option_map_or}}
use Rattle.oc_linking.specs.declared.terms.Kind.{Kind}
use Rattle.oc_neutral.specs.{declared.elf.TheConstants.{SHT_NOBITS}, Elf.Kinds.{is_carried_type, elf_kind}}
use Rattle.oc_shelf.specs.Reading.Firsts.{first_place, first_keyed}
use Rattle.oc_elf.specs.{declared.constants.TheConstants.{SHT_SYMTAB, SHT_SYMTAB_SHNDX}, declared.shdr.Shdr.{Shdr}, Classes.{is_big, reloc_type, word_of}}
use Rattle.oc_elf.specs.{declared.class.ElfClass.{ElfClass}, Shdr.{null_shdr}, Names.{name_in}, Frames.{FileFrame, header_at}}

-- the section is of that type
abbrev pub is_type : ℕ → Shdr → Bool
is_type type s = nat_eq s.sh_type type

-- the section is carried
abbrev pub is_carried : Shdr → Bool
is_carried s = is_carried_type s.sh_type

-- the name of a section
abbrev pub section_name : FileFrame → Shdr → List ℕ
section_name f s = unwrap_or (name_in f.file f.names s.sh_name) []

-- its kind, where it is carried
abbrev pub kind_of : FileFrame → Shdr → Kind
kind_of f s = elf_kind (section_name f s) s.sh_type s.sh_flags

-- its contents: zeros where it takes no bytes of the file
abbrev pub contents_of : FileFrame → Shdr → List ℕ
contents_of f s = if is_type SHT_NOBITS s then replicate s.sh_size 0 else take s.sh_size (drop s.sh_offset f.file)

-- the section whose relocations section k has, where it is a relocation table
abbrev pub relocated_by : FileFrame → ℕ → Option ℕ
relocated_by f k = if is_type (reloc_type (word_of f.class)) (header_at f.headers k) then Some (header_at f.headers k).sh_info else None

-- the first relocation table of section j, among the first n headers
abbrev pub table_among : FileFrame → ℕ → ℕ → Option ℕ
table_among f n j = first_keyed (relocated_by f) n j

-- the first symbol table among the first n headers
abbrev pub symtab_among : FileFrame → ℕ → Option ℕ
symtab_among f n = first_place (λ k. is_type SHT_SYMTAB (header_at f.headers k)) n

-- the first table of section numbers among the first n of these headers
abbrev pub shndx_among : List Shdr → ℕ → Option ℕ
shndx_among headers n = first_place (λ k. is_type SHT_SYMTAB_SHNDX (header_at headers k)) n

-- the one among these headers, where sections are many
abbrev pub shndx_number : ElfClass → List Shdr → Option ℕ
shndx_number class headers = if is_big class then shndx_among headers (length headers) else None

-- its header; that of no section where there is none
abbrev pub shndx_by : ElfClass → List Shdr → Shdr
shndx_by class headers = option_map_or (λ k. header_at headers k) (shndx_number class headers) null_shdr
