-- What a file of an object is made of.
use Rattle.std.specs.{Prelude.{◌≡◌, ℕ, List, length, map}, List.{AllByRecursion}}
use Rattle.oc_neutral.specs.Objects.{Object}
use Rattle.oc_omf_file.specs.{Names.{names_of}, Outputs.{symbol_outputs}}
use Rattle.oc_omf_write.specs.{declared.entries.Entry.{Entry}, declared.tables.WrittenTables.{WrittenTables}, Entries.{entry_for}, Names.{segment_in, IsNameOf}}
use Rattle.oc_omf_write.specs.{Numbers.{AreNumbers}, Raws.{sections_in}, Tables.{texts_of, fixups_of}, Written.{fixups_in}}

-- what is made of an object, whose symbols have these numbers
pub record IsMade (n : Object) (t : WrittenTables) (numbers : List ℕ) : Type 0 where
  pub sections : t.sections.items ≡ sections_in n
  pub segments : t.segments.items ≡ map (segment_in (sections_in n)) (sections_in n)
  pub texts : texts_of t ≡ names_of n
  pub symbols : t.symbols.items ≡ n.symbols
  pub fixups : fixups_of t ≡ fixups_in numbers n
  pub numbered : AreNumbers n numbers

-- what is made of an object, with the entries of its symbols
pub record IsMadeWith (n : Object) (t : WrittenTables) (symbols : List Entry) : Type 0 where
  pub numbers : List ℕ
  pub made : IsMade n t numbers
  pub named : AllByRecursion (IsNameOf (length t.sections.items)) t.names.items
  pub of : symbols ≡ map entry_for (symbol_outputs n)
