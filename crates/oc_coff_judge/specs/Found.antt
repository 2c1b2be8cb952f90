-- What is found in a file before its symbols are judged (PE/COFF; our profile).
use Rattle.oc_coff.specs.{Files.{CoffFile, tables_in}, Tables.{Tables}, Entries.{entries_in, entry_numbered}, Sections.{position_of, sections_in}}
use Rattle.oc_coff.specs.Symbols.{tagged_by}
use Rattle.std.specs.{Prelude.{◌≡◌, ℕ, ◌+◌, ◌<◌, if◌then◌else◌, List, length, Option, Some, None}, Option.{is_some}}
use Rattle.oc_shelf.specs.Reading.Slots.{AreSlots}
use Rattle.oc_coff_judge.specs.{declared.found.Found.{Found}, Numbered.{AreNumbers, AreOwners, entry_by}, Tagged.{AreTagged}}

-- the number of an entry that is a symbol, and no auxiliary entry
abbrev pub start_of : Tables → ℕ → Option ℕ
start_of t j = if is_some (entry_numbered (entries_in t) j) then Some j else None

-- the position of each carried section, by the number of the section
abbrev pub ArePositions : CoffFile → List (Option ℕ) → Type 0
ArePositions file slots = AreSlots (position_of (sections_in (tables_in file))) (length (tables_in file).sections + 1) slots

-- entry j tags the symbol of entry d
pub record IsTagOf (file : CoffFile) (j d : ℕ) : Type 0 where
  pub low : d < length (tables_in file).entries
  pub is : tagged_by (entries_in (tables_in file)) (entry_by file j) ≡ Some (entry_by file d)

-- the numbers of the symbols; the first two symbols of each section; the position of each carried section, by its number; and which entries are
-- symbols, and which are tagged by weak externals
pub record IsFound (file : CoffFile) (x : Found) : Type 0 where
  pub numbers_are : AreNumbers file x.numbers.items
  pub owners_are : AreOwners (tables_in file) x.owners.firsts x.owners.seconds
  pub sections_are : ArePositions file x.sections
  pub starts_are : AreSlots (start_of (tables_in file)) (length (tables_in file).entries) x.starts
  pub tagged_are : AreTagged (tables_in file) x.tagged
