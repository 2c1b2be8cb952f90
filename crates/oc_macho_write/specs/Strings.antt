-- The string table of an output (Mach-O reference, "nlist"; our profile).
use Rattle.std.specs.Prelude.{◌≡◌, ℕ, List}
use Rattle.oc_base.specs.declared.format.Word.{Word}
use Rattle.oc_neutral.specs.Objects.{Object}
use Rattle.oc_macho_file.specs.Layout.{line_names}
use Rattle.oc_macho_write.specs.{declared.lines.Line.{Line}, Lines.{AreLines}, declared.strings.TheConstants.{STRINGS_HEAD}}
use Rattle.oc_strings.specs.Tables.{StringTable}

-- the table of these names, whose first text comes after the empty name
abbrev pub table_with : List (List ℕ) → StringTable
table_with given = record { head = STRINGS_HEAD; names = given }

-- these are the lines of the object in one of the words of Mach-O, and their names are those in the table
pub record AreNamedIn (table : StringTable) (n : Object) (these : List Line) : Type 0 where
  pub word : Word
  pub lines : AreLines word n these
  pub names : table ≡ table_with (line_names word n)
