-- The classes of files, and what differs by their words (gABI, "ELF Identification" and "ELF Header"; i386 and x86-64 psABI).
use Rattle.std.specs.Prelude.{ℕ, Bool, true, false}
use Rattle.oc_base.specs.{declared.format.Word.{Word}, declared.format.Word.TheVariants.{W32, W64}, declared.format.Format.{Format}}
use Rattle.oc_base.specs.declared.format.Format.TheVariants.{Elf32, Elf64, BigElf32, BigElf64}
use Rattle.oc_elf.specs.{declared.constants.TheConstants.{EM_386, EM_X86_64, SHT_REL, SHT_RELA}, declared.class.ElfClass.{ElfClass}}
use Rattle.oc_elf.specs.declared.class.ElfClass.TheVariants.{Class32, Class64, Big32, Big64}

-- the size of an address
abbrev pub word_of : ElfClass → Word
word_of Class32 = W32
word_of Class64 = W64
word_of Big32 = W32
word_of Big64 = W64

-- the format
abbrev pub format_of : ElfClass → Format
format_of Class32 = Elf32
format_of Class64 = Elf64
format_of Big32 = BigElf32
format_of Big64 = BigElf64

-- sections are numbered in header 0 where the file header has no room
abbrev pub is_big : ElfClass → Bool
is_big Class32 = false
is_big Class64 = false
is_big Big32 = true
is_big Big64 = true

-- the machine of a word
abbrev pub machine_of : Word → ℕ
machine_of W32 = EM_386
machine_of W64 = EM_X86_64

-- the type of the relocation tables: with the addends in the fields, or in the entries
abbrev pub reloc_type : Word → ℕ
reloc_type W32 = SHT_REL
reloc_type W64 = SHT_RELA

-- that of the other word
abbrev pub foreign_type : Word → ℕ
foreign_type W32 = SHT_RELA
foreign_type W64 = SHT_REL
