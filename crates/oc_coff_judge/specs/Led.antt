-- What is carried of a file, by numbers, and which sections lead groups (PE/COFF, "COMDAT Sections"; our profile).
use Rattle.oc_coff.specs.{Files.{CoffFile, tables_in}, declared.constants.TheConstants.{IMAGE_COMDAT_SELECT_ASSOCIATIVE}}
use Rattle.oc_coff.specs.{declared.section_aux.SectionAux.{SectionAux}, Tables.{SectionTable, Tables}, Entries.{entries_in, name_of}}
use Rattle.oc_coff.specs.{Comdat.{definition_in, key_symbol, led_key}, Sections.{Carried, carried_of, sections_in}, Symbols.{symbol_of}}
use Rattle.std.specs.{Prelude.{◌≡◌, ℕ, ◌+◌, ◌<◌, nat_eq, length, if◌then◌else◌, slice_get, Option, Some}, Option.{option_and_then, option_map}}
use Rattle.oc_linking.specs.Parts as parts
use Rattle.oc_coff_judge.specs.Numbered.{entry_by}

-- section i, counted from 0, where it is carried
unfoldable pub carried_at : Tables → ℕ → Option Carried
carried_at t i = option_and_then (λ (x : SectionTable). carried_of t (i + 1, x)) (slice_get t.sections i)

-- as linking sees it
abbrev pub section_at : Tables → ℕ → Option parts.Section
section_at t i = option_map (λ (c : Carried). c.section) (carried_at t i)

-- the symbol at position i of all, where it is carried
unfoldable pub symbol_at : Tables → ℕ → Option parts.Symbol
symbol_at t i = option_and_then (symbol_of t.strings (sections_in t) (entries_in t)) (slice_get (entries_in t) i)

-- the section that leads the group of section number k, where either is in one, by what its own symbol says
abbrev pub leader_by : ℕ → SectionAux → ℕ
leader_by k d = if nat_eq d.Selection IMAGE_COMDAT_SELECT_ASSOCIATIVE then d.Number else k

abbrev pub leader_of : Tables → ℕ → Option ℕ
leader_of t k = option_map (leader_by k) (definition_in t k)

-- entry j has the name that is the key of section number k
pub record IsKeySymbol (file : CoffFile) (k j : ℕ) : Type 0 where
  pub low : j < length (tables_in file).entries
  pub is : key_symbol (entries_in (tables_in file)) k ≡ Some (entry_by file j)

-- section number k leads a group, and entry j has the name that is its key
pub record IsLed (file : CoffFile) (k j : ℕ) : Type 0 where
  pub low : j < length (tables_in file).entries
  pub is : led_key (tables_in file) k ≡ Some (name_of (tables_in file).strings (entry_by file j))
