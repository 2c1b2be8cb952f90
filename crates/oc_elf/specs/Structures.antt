-- The structures of all classes as bytes (gABI, "ELF Header", "Section Header", "Symbol Table" and "Relocation").
use Rattle.std.specs.Prelude.{ℕ, ◌+◌, ◌*◌, ◌%◌, ◌^◌, Bool, not, ◌&&◌, nat_lt, if◌then◌else◌, List, [], ◌∷◌, ◌++◌}
use Rattle.oc_base.specs.{Numbers.{bytes_of_number}, declared.format.Word.{Word}, declared.format.Word.TheVariants.{W32, W64}}
use Rattle.oc_shelf.specs.Writing.Packed.{packed}
use Rattle.oc_elf.specs.{declared.class.ElfClass.{ElfClass}, declared.constants.TheConstants.{SHN_LORESERVE, SHN_XINDEX, SHNDX_SIZE}, declared.ehdr.Ehdr.{Ehdr}}
use Rattle.oc_elf.specs.{declared.shdr.Shdr.{Shdr}, declared.sym.Sym.{Sym}, declared.rel.Rel.{Rel}, Classes.{is_big, word_of}}
use Rattle.oc_elf.specs.declared.constants.TheConstants.{ELFCLASS32, ELFCLASS64, FIRST_EXTENDED}

-- how many bytes an address and an offset have
abbrev pub word_bytes : Word → ℕ
word_bytes W32 = 4
word_bytes W64 = 8

-- the file class as the file header has it
abbrev pub ei_class_of : Word → ℕ
ei_class_of W32 = ELFCLASS32
ei_class_of W64 = ELFCLASS64

-- the numbers of an identification, each after its width: `\x7fELF` first, and nine unused bytes last
abbrev pub ident_numbers : Word → Ehdr → List (ℕ × ℕ)
ident_numbers word h = (1, 0x7F) ∷ (1, 0x45) ∷ (1, 0x4C) ∷ (1, 0x46) ∷ (1, ei_class_of word) ∷ (1, h.ei_data) ∷ (1, h.ei_version) ∷ (9, 0) ∷ []

-- those of what a file is, and of where its section headers begin; it has no entry point and no program headers
abbrev pub kind_numbers : Word → Ehdr → List (ℕ × ℕ)
kind_numbers word h =
    (2, h.e_type) ∷ (2, h.e_machine) ∷ (4, h.e_version) ∷ (word_bytes word, 0) ∷ (word_bytes word, 0) ∷ (word_bytes word, h.e_shoff) ∷ []

-- those of the sizes and counts of headers; there are no flags and no program headers
abbrev pub count_numbers : Ehdr → List (ℕ × ℕ)
count_numbers h = (4, 0) ∷ (2, h.e_ehsize) ∷ (2, 0) ∷ (2, 0) ∷ (2, h.e_shentsize) ∷ (2, h.e_shnum) ∷ (2, h.e_shstrndx) ∷ []

-- the numbers of a file header
abbrev pub ehdr_numbers : Word → Ehdr → List (ℕ × ℕ)
ehdr_numbers word h = ident_numbers word h ++ kind_numbers word h ++ count_numbers h

-- its bytes
unfoldable pub ehdr_bytes : Word → Ehdr → List ℕ
ehdr_bytes word h = packed (ehdr_numbers word h)

-- the numbers of a section header down to its offset; its address is 0
abbrev pub leading_numbers : Word → Shdr → List (ℕ × ℕ)
leading_numbers word s = (4, s.sh_name) ∷ (4, s.sh_type) ∷ (word_bytes word, s.sh_flags) ∷ (word_bytes word, 0) ∷ (word_bytes word, s.sh_offset) ∷ []

-- those from its size on
abbrev pub trailing_numbers : Word → Shdr → List (ℕ × ℕ)
trailing_numbers word s = (word_bytes word, s.sh_size) ∷ (4, s.sh_link) ∷ (4, s.sh_info) ∷ (word_bytes word, s.sh_addralign) ∷ (word_bytes word, s.sh_entsize) ∷ []

-- the numbers of a section header
abbrev pub shdr_numbers : Word → Shdr → List (ℕ × ℕ)
shdr_numbers word s = leading_numbers word s ++ trailing_numbers word s

-- its bytes
unfoldable pub shdr_bytes : Word → Shdr → List ℕ
shdr_bytes word s = packed (shdr_numbers word s)

-- the section number is stored elsewhere
abbrev pub is_extended : ℕ → Bool
is_extended m = not (nat_lt m FIRST_EXTENDED) && nat_lt m SHN_LORESERVE

-- in the entry of a symbol: the number, or that it is stored elsewhere
abbrev pub stored_index : ElfClass → ℕ → ℕ
stored_index class m = if is_big class && is_extended m then SHN_XINDEX else m % 2 ^ 16

-- and in the table of section numbers
abbrev pub extended_index : ℕ → ℕ
extended_index m = if is_extended m then m else 0

-- its bytes there
unfoldable pub index_bytes : Sym → List ℕ
index_bytes s = bytes_of_number SHNDX_SIZE (extended_index s.st_shndx)

-- the numbers of a symbol table entry with its section number, in the order of the word
abbrev pub sym_row : Word → Sym → ℕ → List (ℕ × ℕ)
sym_row W32 s index = (4, s.st_name) ∷ (4, s.st_value) ∷ (4, s.st_size) ∷ (1, s.st_info) ∷ (1, s.st_other) ∷ (2, index) ∷ []
sym_row W64 s index = (4, s.st_name) ∷ (1, s.st_info) ∷ (1, s.st_other) ∷ (2, index) ∷ (8, s.st_value) ∷ (8, s.st_size) ∷ []

-- with the one that is stored
abbrev pub sym_numbers : ElfClass → Sym → List (ℕ × ℕ)
sym_numbers class s = sym_row (word_of class) s (stored_index class s.st_shndx)

-- its bytes
unfoldable pub sym_bytes : ElfClass → Sym → List ℕ
sym_bytes class s = packed (sym_numbers class s)

-- the numbers of a relocation entry: in ELF32 r_info has the symbol above eight bits of the type, and there is no addend
abbrev pub rel_numbers : Word → Rel → List (ℕ × ℕ)
rel_numbers W32 r = (4, r.r_offset) ∷ (4, 256 * r.r_sym + r.r_type) ∷ []
rel_numbers W64 r = (8, r.r_offset) ∷ (4, r.r_type) ∷ (4, r.r_sym) ∷ (8, r.r_addend) ∷ []

-- its bytes
unfoldable pub rel_bytes : Word → Rel → List ℕ
rel_bytes word r = packed (rel_numbers word r)
