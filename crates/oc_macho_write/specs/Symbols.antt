-- The entries of the symbol table by positions (Mach-O reference, "nlist"; our profile).
use Rattle.std.specs.Prelude.{◌≡◌, ℕ, List}
use Rattle.oc_base.specs.declared.format.Word.{Word}
use Rattle.oc_neutral.specs.Objects.{Object}
use Rattle.oc_strings.specs.Tables.{StringTable}
use Rattle.oc_macho.specs.declared.nlist.Nlist.{Nlist}
use Rattle.oc_macho_file.specs.{Layout.{line_names}, Symbols.{own_entry}}
use Rattle.oc_macho_write.specs.{Strings.{table_with}, Values.{AreAddresses}}

-- this is the entry of the symbol of a section, in each object with these addresses whose names are those in the table
abbrev pub IsOwnEntry : StringTable → List ℕ → ℕ → Nlist → Type 0
IsOwnEntry names at section nlist = (w : Word) (n : Object) → AreAddresses n at → names ≡ table_with (line_names w n) → nlist ≡ own_entry w n section
