-- Conditions on the file header and on the table of section headers (gABI, "ELF Header"; our profile).
use Rattle.std.specs.Prelude.{ℕ, ◌+◌, ◌*◌, Bool, not, ◌&&◌, ◌||◌, nat_eq, nat_lt, if◌then◌else◌, List, [], ◌∷◌, length}
use Rattle.oc_base.specs.{declared.code.Code.{Code}, declared.code.Code.TheVariants.{Short, BadHeader, NotRelocatable, ExtendedNumbering, BadTable}}
use Rattle.oc_base.specs.{declared.fault.Fault.{Fault}, declared.fault.Phase.TheVariants.{Header}, declared.format.Word.{Word}}
use Rattle.oc_linking.specs.FirstFault.{Condition, Stage}
use Rattle.oc_elf.specs.{declared.class.ElfClass.{ElfClass}, declared.constants.TheConstants.{ELFDATA2LSB, EV_CURRENT, ET_REL, SHN_XINDEX, SHT_STRTAB}}
use Rattle.oc_elf.specs.{declared.ehdr.Ehdr.{Ehdr}, declared.shdr.Shdr.{Shdr}, Classes.{machine_of, is_big, word_of}, Ehdr.{ehdr_in, ehdr_size}}
use Rattle.oc_elf.specs.{Shdr.{shdr_size}, Frames.{framed, zero_in, big_count}}

-- a fault of the file header, at a place
abbrev pub header_fault : Code → ℕ → Fault
header_fault code place = record { phase = Header; index = 0; code = code; place = place }

-- little-endian, of the current version, and with a header of its word's size
abbrev pub is_current : Word → Ehdr → Bool
is_current word h =
    nat_eq h.ei_data ELFDATA2LSB && nat_eq h.ei_version EV_CURRENT && nat_eq h.e_version EV_CURRENT && nat_eq h.e_ehsize (ehdr_size word)

-- a relocatable object for the machine of its word
abbrev pub is_relocatable : Word → Ehdr → Bool
is_relocatable word h = nat_eq h.e_type ET_REL && nat_eq h.e_machine (machine_of word)

-- sections are numbered elsewhere than in the header, and may not
abbrev pub is_wrongly_extended : ElfClass → Ehdr → Bool
is_wrongly_extended class h = not (is_big class) && (nat_eq h.e_shnum 0 && not (nat_eq h.e_shoff 0) || nat_eq h.e_shstrndx SHN_XINDEX)

-- there are section headers
abbrev pub has_headers : Ehdr → Bool
has_headers h = not (nat_eq h.e_shnum 0)

-- the conditions on a table of section headers in a file of so many bytes, where there is one
abbrev pub plain_conditions : Word → ℕ → Ehdr → List Condition
plain_conditions word size h =
    if has_headers h then (
    (not (nat_eq h.e_shentsize (shdr_size word)), header_fault BadHeader 0)
    ∷ (nat_lt size (h.e_shoff + shdr_size word * h.e_shnum), header_fault Short h.e_shoff)
    ∷ []
    ) else []

-- where sections are many: header 0 is present, and gives a number
abbrev pub big_conditions : Word → ℕ → Ehdr → Shdr → List Condition
big_conditions word size h zero =
    (not (nat_eq h.e_shentsize (shdr_size word)), header_fault BadHeader 0)
    ∷ (nat_lt size (h.e_shoff + shdr_size word), header_fault Short h.e_shoff)
    ∷ (nat_eq (big_count h zero) 0, header_fault BadHeader 0)
    ∷ (nat_lt size (h.e_shoff + shdr_size word * big_count h zero), header_fault Short h.e_shoff)
    ∷ []

-- by the class
abbrev pub table_conditions : ElfClass → ℕ → Ehdr → Shdr → List Condition
table_conditions class size h zero = if is_big class then big_conditions (word_of class) size h zero else plain_conditions (word_of class) size h

-- the conditions on the file header, in a file of so many bytes
unfoldable pub header_conditions : ElfClass → ℕ → Ehdr → Shdr → List Condition
header_conditions class size h zero =
    (nat_lt size (ehdr_size (word_of class)), header_fault Short 0)
    ∷ (not (is_current (word_of class) h), header_fault BadHeader 0)
    ∷ (not (is_relocatable (word_of class) h), header_fault NotRelocatable 0)
    ∷ (is_wrongly_extended class h, header_fault ExtendedNumbering 0)
    ∷ table_conditions class size h zero

-- those on the header that a file has
abbrev pub file_conditions : ElfClass → List ℕ → List Condition
file_conditions class file = header_conditions class (length file) (ehdr_in (word_of class) file) (zero_in (word_of class) file)

-- the condition on the header of the names of sections, where there are so many headers
abbrev pub names_conditions : ℕ → Shdr → List Condition
names_conditions count names = (not (nat_eq count 0) && not (nat_eq names.sh_type SHT_STRTAB), header_fault BadTable 0) ∷ []

-- the stage of the file header: one structure with these conditions
abbrev pub header_stage : ElfClass → List ℕ → Stage
header_stage class file = record { count = 1; conditions = λ _. file_conditions class file }

-- that of the header that it names
abbrev pub names_stage : ElfClass → List ℕ → Stage
names_stage class file = record { count = 1; conditions = λ _. names_conditions (length (framed class file).headers) (framed class file).names }

-- both
abbrev pub header_stages : ElfClass → List ℕ → List Stage
header_stages class file = header_stage class file ∷ names_stage class file ∷ []
