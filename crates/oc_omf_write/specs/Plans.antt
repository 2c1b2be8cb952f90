-- Planned files: their entries, one after another (TIS OMF 1.1, "Record Format"; our profile).
use Rattle.std.specs.{Prelude.{◌≡◌, ℕ, List, [], ◌∷◌, ◌++◌, length, map}, List.{AllByRecursion, range_with_len}}
use Rattle.oc_neutral.specs.Objects.{Object}
use Rattle.oc_omf_file.specs.{Canonical.{output_bytes}, Names.{filled_from}, Outputs.{outputs_of}}
use Rattle.oc_shelf.specs.Writing.Parts as placed
use Rattle.oc_shelf.specs.{declared.writing.layout.Layout.{Layout}, Writing.Parts.{behind}}
use Rattle.oc_omf_write.specs.{declared.entries.Entry.{Entry}, declared.tables.WrittenTables.{WrittenTables}, Names.{names_entry, texts_in, IsRange}, Pieces.{data_entries}}
use Rattle.oc_omf_write.specs.Tables.{AreSound, CanPut, bytes_by, texts_of, fixups_of}
use Rattle.oc_omf_write.specs.declared.entries.Entry.TheVariants as entry

-- the entries of a file, as their bytes
abbrev pub parts_by : WrittenTables → List Entry → List (List ℕ)
parts_by t entries = map (bytes_by t) entries

-- the entries of a file that is made of these, with these entries of its symbols
pub record AreEntries (t : WrittenTables) (symbols entries : List Entry) : Type 0 where
  pub ranges : List (ℕ × ℕ)
  pub filled : map (texts_in (texts_of t)) ranges ≡ filled_from [] (texts_of t)
  pub inside : AllByRecursion (IsRange (length (texts_of t))) ranges
  pub are : entries ≡ entry.Header ∷ map names_entry ranges
      ++ (map entry.Segment (range_with_len 0 (length t.sections.items))
      ++ (entry.Group ∷ symbols
      ++ (data_entries (fixups_of t) t.sections.items
      ++ entry.End ∷ [])))

-- the contents of these entries can be put
pub record ArePut (t : WrittenTables) (entries : List Entry) : Type 0 where
  pub sound : AreSound t
  pub fits : AllByRecursion (CanPut t) entries

-- the layout is that of these entries
abbrev pub AreLaid : WrittenTables → Layout → List Entry → Type 0
AreLaid t = placed.AreLaid behind (λ e. length (bytes_by t e))

-- the entries of the canonical file of an object, as their bytes
abbrev pub omf_parts : Object → List (List ℕ)
omf_parts n = map (output_bytes n) (outputs_of n)
