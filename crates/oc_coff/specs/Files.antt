-- Files with the shape in which they are read (PE/COFF; winnt.h, "ANON_OBJECT_HEADER_BIGOBJ").
use Rattle.std.specs.Prelude.{ℕ, List}
use Rattle.oc_coff.specs.{declared.form.Shape.{Shape}, Tables.{Slot, Tables, slot_at, tables_of}}

-- a file, and its shape
pub record CoffFile : Type 0 where
  pub shape : Shape
  pub bytes : List ℕ

-- its structures
abbrev pub tables_in : CoffFile → Tables
tables_in f = tables_of f.shape f.bytes

-- the entry at a place
abbrev pub slot_in : CoffFile → ℕ → Slot
slot_in f at = slot_at f.shape f.bytes at
