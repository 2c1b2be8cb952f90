-- The structures of both words as bytes (Mach-O reference, "mach_header", "segment_command", "section", "symtab_command",
-- "dysymtab_command", "nlist", "relocation_info" and "scattered_relocation_info"); those that are longer than a row in two runs.
use Rattle.std.specs.Prelude.{ℕ, ◌+◌, ◌*◌, ◌^◌, List, [], ◌∷◌, ◌++◌, take, replicate}
use Rattle.oc_base.specs.{declared.format.Word.{Word}, declared.format.Word.TheVariants.{W32, W64}}
use Rattle.oc_shelf.specs.Writing.Packed.{packed}
use Rattle.oc_macho.specs.declared.constants.TheConstants.{MH_MAGIC, MH_MAGIC_64, LC_SYMTAB, LC_DYSYMTAB, R_SCATTERED}
use Rattle.oc_macho.specs.{declared.load_command.TheConstants.{DYSYMTAB_COMMAND_SIZE}, declared.names.TheConstants.{NAME_SIZE}}
use Rattle.oc_macho.specs.{declared.symtab_command.TheConstants.{SYMTAB_COMMAND_SIZE}, declared.mach_header.MachHeader.{MachHeader}}
use Rattle.oc_macho.specs.{declared.segment_command.SegmentCommand.{SegmentCommand}, declared.section_header.SectionHeader.{SectionHeader}}
use Rattle.oc_macho.specs.{declared.symtab_command.SymtabCommand.{SymtabCommand}, declared.structures.Dysymtab.{Dysymtab}, declared.nlist.Nlist.{Nlist}}
use Rattle.oc_macho.specs.{declared.relocation_info.Reference.{Reference}, declared.relocation_info.Reference.TheVariants.{Symbol, Section, Address}}
use Rattle.oc_macho.specs.{declared.relocation_info.RelocationInfo.{RelocationInfo}, MachHeader.{address_size}, SegmentCommand.{segment_number}}

-- the first bytes of a file of that word
abbrev pub magic_of : Word → ℕ
magic_of W32 = MH_MAGIC
magic_of W64 = MH_MAGIC_64

-- a name of up to 16 bytes, with NULs after it
abbrev pub padded : List ℕ → List ℕ
padded name = take NAME_SIZE (name ++ replicate NAME_SIZE 0)

-- the word of zeros that ends a file header and a section header of 64 bits
abbrev pub reserved : Word → List (ℕ × ℕ)
reserved W32 = []
reserved W64 = (4, 0) ∷ []

-- the numbers of a file header, each after its width
abbrev pub mach_header_numbers : Word → MachHeader → List (ℕ × ℕ)
mach_header_numbers w h = (4, h.magic) ∷ (4, h.cputype) ∷ (4, h.cpusubtype) ∷ (4, h.filetype) ∷ (4, h.ncmds) ∷ (4, h.sizeofcmds) ∷ (4, h.flags) ∷ reserved w

-- its bytes
unfoldable pub mach_header_bytes : Word → MachHeader → List ℕ
mach_header_bytes w h = packed (mach_header_numbers w h)

-- the number, the size and the name of the command for a segment
abbrev pub segment_front : Word → ℕ → SegmentCommand → List ℕ
segment_front w cmdsize s = packed ((4, segment_number w) ∷ (4, cmdsize) ∷ []) ++ s.segname

-- what follows in it
abbrev pub segment_back : Word → SegmentCommand → List ℕ
segment_back w s = packed (
    (address_size w, s.vmaddr) ∷ (address_size w, s.vmsize) ∷ (address_size w, s.fileoff) ∷ (address_size w, s.filesize)
    ∷ (4, s.maxprot) ∷ (4, s.initprot) ∷ (4, s.nsects) ∷ (4, s.flags) ∷ [])

-- the numbers of the command that places symbols and strings
abbrev pub symtab_numbers : SymtabCommand → List (ℕ × ℕ)
symtab_numbers c = (4, LC_SYMTAB) ∷ (4, SYMTAB_COMMAND_SIZE) ∷ (4, c.symoff) ∷ (4, c.nsyms) ∷ (4, c.stroff) ∷ (4, c.strsize) ∷ []

-- its bytes
unfoldable pub symtab_bytes : SymtabCommand → List ℕ
symtab_bytes c = packed (symtab_numbers c)

-- what the command that gives the groups of symbols begins with
abbrev pub dysymtab_front : Dysymtab → List ℕ
dysymtab_front d = packed (
    (4, LC_DYSYMTAB) ∷ (4, DYSYMTAB_COMMAND_SIZE) ∷ (4, 0) ∷ (4, d.nlocalsym) ∷ (4, d.nlocalsym) ∷ (4, d.nextdefsym)
    ∷ (4, d.nlocalsym + d.nextdefsym) ∷ (4, d.nundefsym) ∷ [])

-- the numbers that say where a section lies, its alignment, and where its entries begin
abbrev pub place_numbers : Word → SectionHeader → List (ℕ × ℕ)
place_numbers w h = (address_size w, h.addr) ∷ (address_size w, h.size) ∷ (4, h.offset) ∷ (4, h.align) ∷ (4, h.reloff) ∷ []

-- how many entries there are, and flags; two reserved words follow them, and in 64 bits a third
abbrev pub flag_numbers : Word → SectionHeader → List (ℕ × ℕ)
flag_numbers w h = (4, h.nreloc) ∷ (4, h.flags) ∷ (4, 0) ∷ (4, 0) ∷ reserved w

-- the numbers of a section header after its names
abbrev pub section_numbers : Word → SectionHeader → List (ℕ × ℕ)
section_numbers w h = place_numbers w h ++ flag_numbers w h

-- its bytes
unfoldable pub section_bytes : Word → SectionHeader → List ℕ
section_bytes w h = h.sectname ++ (h.segname ++ packed (section_numbers w h))

-- the numbers of a symbol table entry
abbrev pub nlist_numbers : Word → Nlist → List (ℕ × ℕ)
nlist_numbers w s = (4, s.n_strx) ∷ (1, s.n_type) ∷ (1, s.n_sect) ∷ (2, s.n_desc) ∷ (address_size w, s.n_value) ∷ []

-- its bytes
unfoldable pub nlist_bytes : Word → Nlist → List ℕ
nlist_bytes w s = packed (nlist_numbers w s)

-- the first word of a relocation entry: where it is scattered, all but r_value
abbrev pub first_word : RelocationInfo → Reference → ℕ
first_word e (Symbol j) = e.r_address
first_word e (Section k) = e.r_address
first_word e (Address v) = e.r_address + e.r_type * 2 ^ 24 + e.r_length * 2 ^ 28 + e.r_pcrel * 2 ^ 30 + R_SCATTERED

-- the second word of an entry that is not scattered, with r_symbolnum and r_extern
abbrev pub plain_word : RelocationInfo → ℕ → ℕ → ℕ
plain_word e symbolnum extern = symbolnum + e.r_pcrel * 2 ^ 24 + e.r_length * 2 ^ 25 + extern * 2 ^ 27 + e.r_type * 2 ^ 28

-- the second word
abbrev pub second_word : RelocationInfo → Reference → ℕ
second_word e (Symbol j) = plain_word e j 1
second_word e (Section k) = plain_word e k 0
second_word e (Address v) = v

-- the bytes of a relocation entry
unfoldable pub relocation_bytes : RelocationInfo → List ℕ
relocation_bytes e = packed ((4, first_word e e.refers) ∷ (4, second_word e e.refers) ∷ [])
