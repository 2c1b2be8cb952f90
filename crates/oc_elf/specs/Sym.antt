-- Symbol table entries (gABI, "Symbol Table").
use Rattle.std.specs.Prelude.{ℕ, nat_lt, if◌then◌else◌, ◌+◌, ◌/◌, ◌%◌, List}
use Rattle.oc_base.specs.{declared.format.Word.{Word}, declared.format.Word.TheVariants.{W32, W64}, Numbers.{number_at}}
use Rattle.oc_neutral.specs.declared.elf.TheConstants as elf
use Rattle.oc_elf.specs.declared.sym.Sym.{Sym}

-- the size of one
abbrev pub sym_size : Word → ℕ
sym_size W32 = 16
sym_size W64 = 24

-- a section number of 16 bits with its sign in 32 bits: those that are reserved are below 0
abbrev pub signed_index : ℕ → ℕ
signed_index n = if nat_lt n elf.SHN_LORESERVE then n else n + 0xFFFF0000

-- the symbol table entry at a place of the file
unfoldable pub sym_in : Word → List ℕ → ℕ → Sym
sym_in W32 file at = record {
  st_name = number_at file at 4;
  st_value = number_at file (at + 4) 4;
  st_size = number_at file (at + 8) 4;
  st_info = number_at file (at + 12) 1;
  st_other = number_at file (at + 13) 1;
  st_shndx = signed_index (number_at file (at + 14) 2);
}
sym_in W64 file at = record {
  st_name = number_at file at 4;
  st_value = number_at file (at + 8) 8;
  st_size = number_at file (at + 16) 8;
  st_info = number_at file (at + 4) 1;
  st_other = number_at file (at + 5) 1;
  st_shndx = signed_index (number_at file (at + 6) 2);
}

-- the binding: the high four bits of st_info
abbrev pub bind_of : Sym → ℕ
bind_of sym = sym.st_info / 16

-- the type: the low four bits of st_info
abbrev pub type_of : Sym → ℕ
type_of sym = sym.st_info % 16
