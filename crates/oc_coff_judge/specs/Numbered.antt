-- Symbols by the numbers of their entries (PE/COFF, "COFF Symbol Table"; our profile).
use Rattle.oc_coff.specs.{Files.{CoffFile, slot_in, tables_in}, Forms.{symbol_size}, Tables.{Tables}, Entries.{Entry, entries_in}, Comdat.{symbols_of}}
use Rattle.std.specs.{Prelude.{◌≡◌, ℕ, ◌+◌, ◌*◌, ◌<◌, nat_eq, if◌then◌else◌, List, length, map, slice_get, Option, None}, List.{AllByRecursion}}
use Rattle.std.specs.Option.{option_map}
use Rattle.oc_shelf.specs.Reading.Slots.{AreSlots}

-- where entry j begins
abbrev pub entry_place : CoffFile → ℕ → ℕ
entry_place file j = (tables_in file).entries_at + symbol_size file.shape * j

-- entry j as a symbol
unfoldable pub entry_by : CoffFile → ℕ → Entry
entry_by file j = record {
  number = j;
  symbol = (slot_in file (entry_place file j)).symbol;
  aux = if nat_eq (slot_in file (entry_place file j)).symbol.NumberOfAuxSymbols 0 then None else slice_get (tables_in file).entries (j + 1);
}

-- these are the numbers of all symbols, in their order
pub record AreNumbers (file : CoffFile) (numbers : List ℕ) : Type 0 where
  pub are : entries_in (tables_in file) ≡ map (entry_by file) numbers
  pub there : AllByRecursion (λ j. j < length (tables_in file).entries) numbers

-- the number of symbol i of section k, counted from 0
abbrev pub symbol_in : Tables → ℕ → ℕ → Option ℕ
symbol_in t i k = option_map (λ (e : Entry). e.number) (slice_get (symbols_of (entries_in t) k) i)

-- the first and the second symbol of each section, by the number of the section
pub record AreOwners (t : Tables) (firsts seconds : List (Option ℕ)) : Type 0 where
  pub firsts_are : AreSlots (symbol_in t 0) (length t.sections + 1) firsts
  pub seconds_are : AreSlots (symbol_in t 1) (length t.sections + 1) seconds
