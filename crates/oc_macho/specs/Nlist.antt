-- Symbol table entries (Mach-O reference, "nlist" and "nlist_64").
use Rattle.std.specs.Prelude.{ℕ, ◌+◌, List}
use Rattle.oc_base.specs.{declared.format.Word.{Word}, declared.format.Word.TheVariants.{W32, W64}, Numbers.{number_at}}
use Rattle.oc_macho.specs.{declared.nlist.Nlist.{Nlist}, MachHeader.{address_size}}

-- the size of one
abbrev pub nlist_size : Word → ℕ
nlist_size W32 = 12
nlist_size W64 = 16

-- the symbol table entry at a place of the file
unfoldable pub nlist_at : Word → List ℕ → ℕ → Nlist
nlist_at w file at = record {
  n_strx = number_at file at 4;
  n_type = number_at file (at + 4) 1;
  n_sect = number_at file (at + 5) 1;
  n_desc = number_at file (at + 6) 2;
  n_value = number_at file (at + 8) (address_size w);
}
