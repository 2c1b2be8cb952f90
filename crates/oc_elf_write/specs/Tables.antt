-- The entries of the tables of a file, as bytes (gABI, "Section Header", "Relocation", "Symbol Table" and "Section Groups").
use Rattle.std.specs.Prelude.{ℕ, List, map}
use Rattle.oc_base.specs.Numbers.{bytes_of_number}
use Rattle.oc_elf.specs.Structures.{index_bytes, rel_bytes, shdr_bytes, sym_bytes}
use Rattle.oc_elf_write.specs.declared.tables.TableRows.{TableRows}
use Rattle.oc_elf_write.specs.declared.tables.TableRows.TheVariants as rows

-- each entry of a table
abbrev pub rows_by : TableRows → List (List ℕ)
rows_by (rows.Headers word headers) = map (shdr_bytes word) headers.now
rows_by (rows.Relocs word relocs) = map (rel_bytes word) relocs.now
rows_by (rows.Symbols class symbols) = map (sym_bytes class) symbols.now
rows_by (rows.Indexes symbols) = map index_bytes symbols.now
rows_by (rows.Words words) = map (bytes_of_number 4) words.now
