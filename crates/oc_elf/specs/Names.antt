-- Names in string tables (gABI, "String Table").
use Rattle.std.specs.Prelude.{ℕ, List, take, drop, Option}
use Rattle.oc_shelf.specs.Reading.Texts.{text_at}
use Rattle.oc_elf.specs.declared.shdr.Shdr.{Shdr}

-- the bytes of a string table, as far as they are in the file
unfoldable pub table_bytes : List ℕ → Shdr → List ℕ
table_bytes file table = take table.sh_size (drop table.sh_offset file)

-- the name at a place of a string table, if its NUL lies in the table and in the file
unfoldable pub name_in : List ℕ → Shdr → ℕ → Option (List ℕ)
name_in file table at = text_at (table_bytes file table) at
