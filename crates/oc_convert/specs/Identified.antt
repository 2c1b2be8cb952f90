-- The format of a file, by its first bytes (gABI, "ELF Identification" and "ELF Header"; PE/COFF, "COFF File Header"; winnt.h,
-- "ANON_OBJECT_HEADER_BIGOBJ"; the Mach-O file format reference, "mach_header"; TIS OMF 1.1, "THEADR").
use Rattle.std.specs.Prelude.{ℕ, ◌+◌, Bool, not, ◌&&◌, ◌||◌, nat_eq, nat_le, bytes_eq, List, [], ◌∷◌, length, take, drop, if◌then◌else◌, Option, Some, None}
use Rattle.oc_base.specs.declared.format.Format.{Format}
use Rattle.oc_base.specs.declared.format.Format.TheVariants.{Elf32, Elf64, Coff32, Coff64, Mac32, Mac64, Omf, BigElf32, BigElf64, BigCoff32, BigCoff64}
use Rattle.oc_base.specs.Numbers.{number_at}
use Rattle.oc_neutral.specs.KindRules.{begins}

-- the first bytes of each format for few sections. ELF: 7F, `ELF` and the class
abbrev pub elf32_bytes : List ℕ
elf32_bytes = 0x7F ∷ 0x45 ∷ 0x4C ∷ 0x46 ∷ 1 ∷ []

abbrev pub elf64_bytes : List ℕ
elf64_bytes = 0x7F ∷ 0x45 ∷ 0x4C ∷ 0x46 ∷ 2 ∷ []

-- a header of ELF of so many bytes, with e_shoff at a place and e_shnum and e_shstrndx at another: it is whole, there is a table of section
-- headers, and the number of headers or that of the header of their names is in the table
abbrev pub has_extended_header : ℕ → ℕ → ℕ → ℕ → List ℕ → Bool
has_extended_header size shoff width shnum file =
    nat_le size (length file) && not (nat_eq (number_at file shoff width) 0)
    && (nat_eq (number_at file shnum 2) 0 || nat_eq (number_at file (shnum + 2) 2) 0xFFFF)

abbrev pub is_big_elf32 : List ℕ → Bool
is_big_elf32 file = has_extended_header 52 32 4 48 file

abbrev pub is_big_elf64 : List ℕ → Bool
is_big_elf64 file = has_extended_header 64 40 8 60 file

-- the class of objects of COFF with many sections
abbrev pub big_class : List ℕ
big_class = 0xC7 ∷ 0xA1 ∷ 0xBA ∷ 0xD1 ∷ 0xEE ∷ 0xBA ∷ 0xA9 ∷ 0x4B ∷ 0xAF ∷ 0x20 ∷ 0xFA ∷ 0xF6 ∷ 0x6A ∷ 0xA4 ∷ 0xDC ∷ 0xB8 ∷ []

-- COFF with many sections: 00 00 FF FF, the machine 4C 01 or 64 86 from byte 6 on, and that class from byte 12 on
abbrev pub is_big_coff : List ℕ → List ℕ → Bool
is_big_coff machine file = begins file (0 ∷ 0 ∷ 0xFF ∷ 0xFF ∷ []) && bytes_eq (take 2 (drop 6 file)) machine && bytes_eq (take 16 (drop 12 file)) big_class

-- the format of a file; none has the first bytes of two
unfoldable pub identified : List ℕ → Option Format
identified file =
    if begins file elf32_bytes then Some (if is_big_elf32 file then BigElf32 else Elf32)
    else (if begins file elf64_bytes then Some (if is_big_elf64 file then BigElf64 else Elf64)
    -- COFF: the machine, 4C 01 or 64 86
    else (if begins file (0x4C ∷ 0x01 ∷ []) then Some Coff32
    else (if begins file (0x64 ∷ 0x86 ∷ []) then Some Coff64
    else (if is_big_coff (0x4C ∷ 0x01 ∷ []) file then Some BigCoff32
    else (if is_big_coff (0x64 ∷ 0x86 ∷ []) file then Some BigCoff64
    -- Mach-O: the magic, CE FA ED FE or CF FA ED FE
    else (if begins file (0xCE ∷ 0xFA ∷ 0xED ∷ 0xFE ∷ []) then Some Mac32
    else (if begins file (0xCF ∷ 0xFA ∷ 0xED ∷ 0xFE ∷ []) then Some Mac64
    -- OMF: the type of its first record, 80
    else (if begins file (0x80 ∷ []) then Some Omf else None))))))))
