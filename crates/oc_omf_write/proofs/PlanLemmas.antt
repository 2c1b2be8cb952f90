-- The file of the entries that are planned.
use Rattle.std.proofs.Common.{◌≡◌, List, length, refl, sym, ◌∙◌, ap, arith}
use Rattle.oc_neutral.specs.Objects.{Object}
use Rattle.oc_shelf.specs.{declared.writing.layout.Layout.{Layout}, Writing.Parts.{behind, file_of, table_of, pieces_by, IsPlaced}}
use Rattle.oc_plans.proofs.PlacedLemmas.{file_laid, joined_rows, joined_table, placed_laid}
use Rattle.oc_omf_file.specs.{Canonical.{output_bytes, omf_file}, Outputs.{outputs_of}}
use Rattle.oc_omf_write.specs.{declared.entries.Entry.{Entry}, declared.tables.WrittenTables.{WrittenTables}, Plans.{AreLaid, parts_by, omf_parts}, Tables.{bytes_by}}

module _ (t : WrittenTables) (entries : List Entry) (layout : Layout) (are : AreLaid t layout entries) where
  -- they are placed
  pub placed : IsPlaced layout (parts_by t entries)
  placed = placed_laid behind (λ (e : Entry). length (bytes_by t e)) (bytes_by t) entries layout are (λ at e. omega arith) (λ e. refl)

  -- where they are those of an object, the file is its canonical file
  pub file_is : (n : Object) → parts_by t entries ≡ omf_parts n → file_of (pieces_by layout (parts_by t entries)) ≡ omf_file n
  unfolding omf_file
  file_is n same =
      file_laid behind (λ (e : Entry). length (bytes_by t e)) (bytes_by t) entries layout are
      ∙ joined_table (bytes_by t) 0 entries ∙ ap table_of same ∙ sym (joined_rows (output_bytes n) (outputs_of n))
