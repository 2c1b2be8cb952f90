-- The tables of a file (gABI, "Symbol Table" and "Relocation"; our profile).
use Rattle.std.specs.{Prelude.{ℕ, ◌+◌, ◌*◌, ◌/◌, ◌&&◌, nat_eq, nat_lt, if◌then◌else◌, length}, Option.{unwrap_or}}
use Rattle.oc_elf.specs.{declared.shdr.Shdr.{Shdr}, declared.sym.Sym.{Sym}, declared.rel.Rel.{Rel}, Sym.{sym_in, sym_size}, Rel.{rel_in, rel_size}}
use Rattle.oc_elf.specs.{Frames.{FileFrame, header_at}, Sections.{is_type, shndx_by, symtab_among, table_among}, Classes.{is_big, word_of}}
use Rattle.oc_elf.specs.declared.constants.TheConstants.{SHT_SYMTAB_SHNDX, SIGNED_XINDEX, NO_INDEX, EXTENDED_ZERO, SHNDX_SIZE}
use Rattle.oc_base.specs.Numbers.{number_at}

-- the symbol table; the header of no section where there is none
abbrev pub symtab_of : FileFrame → Shdr
symtab_of f = header_at f.headers (unwrap_or (symtab_among f (length f.headers)) 0)

-- how many entries a symbol table has
abbrev pub entry_count : FileFrame → Shdr → ℕ
entry_count f table = table.sh_size / sym_size (word_of f.class)

-- how many symbols there are
abbrev pub symbol_count : FileFrame → ℕ
symbol_count f = entry_count f (symtab_of f)

-- where symbol k lies
abbrev pub symbol_place : FileFrame → ℕ → ℕ
symbol_place f k = (symtab_of f).sh_offset + sym_size (word_of f.class) * k

-- the header of the table of section numbers; that of no section where there is none
abbrev pub shndx_of : FileFrame → Shdr
shndx_of f = shndx_by f.class f.headers

-- where the section number of symbol k lies there
abbrev pub index_place : FileFrame → ℕ → ℕ
index_place f k = (shndx_of f).sh_offset + SHNDX_SIZE * k

-- a number that is stored there, where a header can have it; header 0 gets another, for 0 is that of no section
abbrev pub extended : ℕ → ℕ
extended e = if nat_eq e 0 then EXTENDED_ZERO else (if nat_lt e EXTENDED_ZERO then e else NO_INDEX)

-- the one of symbol k
abbrev pub index_of : FileFrame → ℕ → ℕ
index_of f k = if is_type SHT_SYMTAB_SHNDX (shndx_of f) then extended (number_at f.file (index_place f k) 4) else NO_INDEX

-- a symbol with another section number
abbrev pub with_index : Sym → ℕ → Sym
with_index s n = record { st_name = s.st_name; st_value = s.st_value; st_size = s.st_size; st_info = s.st_info; st_other = s.st_other; st_shndx = n }

-- symbol k with its section number, where that is in the table
abbrev pub indexed : FileFrame → ℕ → Sym → Sym
indexed f k s = if is_big f.class && nat_eq s.st_shndx SIGNED_XINDEX then with_index s (index_of f k) else s

-- symbol k
unfoldable pub entry_of : FileFrame → ℕ → Sym
entry_of f k = indexed f k (sym_in (word_of f.class) f.file (symbol_place f k))

-- the relocation table of section j; the header of no section where there is none
abbrev pub table_of : FileFrame → ℕ → Shdr
table_of f j = header_at f.headers (unwrap_or (table_among f (length f.headers) j) 0)

-- how many entries it has
abbrev pub reloc_count : FileFrame → ℕ → ℕ
reloc_count f j = (table_of f j).sh_size / rel_size (word_of f.class)

-- where entry k of it lies
abbrev pub reloc_place : FileFrame → ℕ → ℕ → ℕ
reloc_place f j k = (table_of f j).sh_offset + rel_size (word_of f.class) * k

-- entry k of it
unfoldable pub reloc_of : FileFrame → ℕ → ℕ → Rel
reloc_of f j k = rel_in (word_of f.class) f.file (reloc_place f j k)
