-- What is known of the tables of a file whose section headers have no fault (our profile).
use Rattle.std.specs.Prelude.{◌≡◌, ℕ, ◌+◌, ◌*◌, ◌<◌, ◌≤◌, ◌^◌, Bool, not, ◌&&◌, ◌||◌, nat_eq, nat_lt, is_some, List, length, Option, Some, true, false}
use Rattle.oc_linking.specs.{declared.terms.Base.{Base}, declared.terms.Base.TheVariants.{Address}}
use Rattle.oc_neutral.specs.Rows.{same_base}
use Rattle.oc_shelf.specs.{Reading.Slots.{AreSlots}, Reading.Bitmaps.{AreBytesOf, room}}
use Rattle.oc_elf.specs.{RelocRules.{span_of, stored_size}, declared.constants.TheConstants.{SHN_COMMON, SHT_SYMTAB_SHNDX, SHNDX_SIZE}}
use Rattle.oc_elf.specs.{declared.shdr.Shdr.{Shdr}, declared.sym.Sym.{Sym}, Frames.{FileFrame, header_at}, Groups.{is_comdat, owner_among}}
use Rattle.oc_elf.specs.{Sections.{is_type, symtab_among, table_among}, Entries.{is_local_entry}}
use Rattle.oc_elf.specs.{Tables.{entry_of, shndx_of, symtab_of, symbol_count, table_of}, CarriedSections.{position_of}}
use Rattle.oc_elf.specs.CarriedSymbols.{home_of, symbol_position}

-- the header is that of the symbol table, which lies in the file
pub record IsSymtab (f : FileFrame) (table : Shdr) : Type 0 where
  pub is : table ≡ symtab_of f
  pub lies : table.sh_offset + table.sh_size ≤ length f.file
  pub indexes : is_type SHT_SYMTAB_SHNDX (shndx_of f) ≡ true → (shndx_of f).sh_offset + SHNDX_SIZE * symbol_count f ≤ length f.file
  pub small : length f.file ≤ 67108864

-- the groups of one definition lie in the file, and their signatures are symbols after the first
abbrev pub AreSigned : FileFrame → Type 0
AreSigned f = (g : ℕ) → is_comdat f g ≡ true → (header_at f.headers g).sh_info < symbol_count f

-- an offset in a carried section, and the alignment of a common, are small
pub record IsValued (f : FileFrame) (s : Sym) : Type 0 where
  pub offset : (p : ℕ) → home_of f s ≡ Some p → s.st_value < 2 ^ 32
  pub align : s.st_shndx ≡ SHN_COMMON → s.st_value < 2 ^ 32

-- the header is that of the relocation table of section i, which lies in the file
pub record IsTable (f : FileFrame) (i : ℕ) (table : Shdr) : Type 0 where
  pub is : table ≡ table_of f i
  pub lies : table.sh_offset + table.sh_size ≤ length f.file
  pub small : length f.file ≤ 67108864

-- the symbols behind the first are LOCAL exactly below sh_info (gABI, "Symbol Table")
abbrev pub AreLocalsFirst : FileFrame → Type 0
AreLocalsFirst f = (k : ℕ) → nat_eq k 0 ≡ false → k < symbol_count f → is_local_entry (entry_of f k) ≡ nat_lt k (symtab_of f).sh_info

-- symbol j can be the target of an entry whose value begins with this: it is not the first, and where it is LOCAL, it lies in a carried section and
-- its address is taken
abbrev pub can_be_target : FileFrame → ℕ → Base → Bool
can_be_target f j base = not (nat_eq j 0) && (not (is_local_entry (entry_of f j)) || is_some (home_of f (entry_of f j)) && same_base base Address)

-- the symbol table, and the positions of sections and of symbols, are those of the file
pub record IsAimed (f : FileFrame) (table : Shdr) (sections symbols : List (Option ℕ)) : Type 0 where
  pub table_is : IsSymtab f table
  pub sections_are : AreSlots (position_of f) (length f.headers) sections
  pub symbols_are : AreSlots (symbol_position f) (symbol_count f) symbols
  pub locals_are : AreLocalsFirst f

-- what is found in a file without faults: its symbol table, the relocation table and the group of each section, and the positions of sections
-- and of symbols
pub record IsFound (f : FileFrame) (symtab : Option ℕ) (relocs owners sections symbols : List (Option ℕ)) : Type 0 where
  pub symtab_is : symtab ≡ symtab_among f (length f.headers)
  pub relocs_are : AreSlots (table_among f (length f.headers)) (length f.headers) relocs
  pub owners_are : AreSlots (owner_among f (length f.headers)) (length f.headers) owners
  pub sections_are : AreSlots (position_of f) (length f.headers) sections
  pub symbols_are : AreSlots (symbol_position f) (symbol_count f) symbols

-- the bytes taken are those of the fields of the first n entries of the relocation table of section i, and there is room for all of the section
pub record AreTaken (f : FileFrame) (i n : ℕ) (words : List ℕ) : Type 0 where
  pub fields : AreBytesOf (span_of f i) n words
  pub room : stored_size (header_at f.headers i) ≤ room words
