-- A file with its section headers (gABI, "ELF Header" and "Sections"; our profile).
use Rattle.std.specs.{Prelude.{ℕ, ◌+◌, ◌*◌, nat_eq, if◌then◌else◌, List, map, slice_index_or}, List.{range_with_len}}
use Rattle.oc_base.specs.declared.format.Word.{Word}
use Rattle.oc_elf.specs.{declared.class.ElfClass.{ElfClass}, declared.ehdr.Ehdr.{Ehdr}, declared.shdr.Shdr.{Shdr}, declared.constants.TheConstants.{SHN_XINDEX}}
use Rattle.oc_elf.specs.{Classes.{is_big, word_of}, Ehdr.{ehdr_in}, Shdr.{shdr_in, shdr_size, null_shdr}}

-- header 0 as it is stored: where sections are many, it has the numbers for which the file header has no room
abbrev pub zero_in : Word → List ℕ → Shdr
zero_in word file = shdr_in word file (ehdr_in word file).e_shoff

-- how many section headers there are, where sections are many
abbrev pub big_count : Ehdr → Shdr → ℕ
big_count h zero = if nat_eq h.e_shnum 0 then zero.sh_size else h.e_shnum

-- the number of the header of the names of sections there
abbrev pub big_names : Ehdr → Shdr → ℕ
big_names h zero = if nat_eq h.e_shstrndx SHN_XINDEX then zero.sh_link else h.e_shstrndx

-- how many section headers there are
abbrev pub count_by : ElfClass → Ehdr → Shdr → ℕ
count_by class h zero = if is_big class then big_count h zero else h.e_shnum

abbrev pub shdr_count : ElfClass → List ℕ → ℕ
shdr_count class file = count_by class (ehdr_in (word_of class) file) (zero_in (word_of class) file)

-- the number of the header of the names of sections
abbrev pub names_by : ElfClass → Ehdr → Shdr → ℕ
names_by class h zero = if is_big class then big_names h zero else h.e_shstrndx

abbrev pub names_number : ElfClass → List ℕ → ℕ
names_number class file = names_by class (ehdr_in (word_of class) file) (zero_in (word_of class) file)

-- where section header k lies
abbrev pub header_place : Word → List ℕ → ℕ → ℕ
header_place word file k = (ehdr_in word file).e_shoff + shdr_size word * k

-- section header k; the first is that of no section, whatever is stored there
unfoldable pub header_of : Word → List ℕ → ℕ → Shdr
header_of word file k = if nat_eq k 0 then null_shdr else shdr_in word file (header_place word file k)

-- the section headers
unfoldable pub headers_of : ElfClass → List ℕ → List Shdr
headers_of class file = map (header_of (word_of class) file) (range_with_len 0 (shdr_count class file))

-- the section header of that number; that of no section where there is none
abbrev pub header_at : List Shdr → ℕ → Shdr
header_at headers k = slice_index_or headers k null_shdr

-- a file with its section headers, and the one of the names of sections
pub record FileFrame : Type 0 where
  pub class : ElfClass
  pub file : List ℕ
  pub headers : List Shdr
  pub names : Shdr

-- the file as one
unfoldable pub framed : ElfClass → List ℕ → FileFrame
framed class file = record {
  class = class;
  file = file;
  headers = headers_of class file;
  names = header_at (headers_of class file) (names_number class file);
}
