-- What is built of a file, step by step (PE/COFF; our profile).
use Rattle.oc_coff.specs.{Files.{CoffFile, tables_in}, declared.section_header.SectionHeader.{SectionHeader}, Tables.{Tables, section_table}, Entries.{name_of}}
use Rattle.oc_coff.specs.{Comdat.{led_key}, Sections.{is_stored, sections_in}, Symbols.{symbols_in}, Forms.{format_by}}
use Rattle.std.specs.Prelude.{◌≡◌, ℕ, ◌+◌, false, List, [], ◌∷◌, ◌++◌, length, map, replicate, if◌then◌else◌, slice_index_or, Option, Some, None}
use Rattle.oc_base.specs.{declared.format.Word.{Word}, Strings.{is_given}}
use Rattle.oc_linking.specs.Parts as parts
use Rattle.oc_linking.specs.declared.terms.Kind.{Kind}
use Rattle.oc_neutral.specs.Building.{Draft, is_zero}
use Rattle.oc_shows.specs.{Computed.{computed_symbol, keys_after}, Started.{groups_by, plain_draft, stored_section}}
use Rattle.oc_shelf.specs.{Reading.Collected.{collected}, Reading.Slots.{place_in}}
use Rattle.oc_coff_judge.specs.{Led.{IsLed, leader_of, section_at, symbol_at}, Numbered.{entry_by}}

-- ... groups

-- the keys of the groups of the carried ones among the first k sections, in the order in which they begin
abbrev pub keys_upto : Tables → ℕ → List (List ℕ)
keys_upto t k = keys_after [] (map (λ (s : parts.Section). s.group) (collected (section_at t) k))

-- those of all
abbrev pub keys_of : Tables → List (List ℕ)
keys_of t = keys_upto t (length t.sections)

-- the slots have the position of the group of each section that leads one, by its number
pub record AreBegunGroups (t : Tables) (keys : List (List ℕ)) (slots : List (Option ℕ)) : Type 0 where
  pub long : length slots ≡ length t.sections + 1
  pub each : (g : ℕ) (key : List ℕ) → led_key t g ≡ Some key → slice_index_or slots g None ≡ place_in keys key

-- section number g leads the group of section i, and entry j has its key
pub record IsHeld (file : CoffFile) (i g j : ℕ) : Type 0 where
  pub held : leader_of (tables_in file) (i + 1) ≡ Some g
  pub led : IsLed file g j

-- the group that section number g leads is the next to begin: the group of section i, where it is not begun
pub record IsNextGroup (file : CoffFile) (i g j : ℕ) : Type 0 where
  pub led : IsLed file g j
  pub new : is_given (keys_upto (tables_in file) i) (name_of (tables_in file).strings (entry_by file j)) ≡ false
  pub next : keys_upto (tables_in file) (i + 1) ≡ keys_upto (tables_in file) i ++ name_of (tables_in file).strings (entry_by file j) ∷ []

-- the bytes that a carried section of that kind has in the object
abbrev pub bytes_by : List ℕ → SectionHeader → Kind → List ℕ
bytes_by file h kind = if is_zero kind then [] else (if is_stored (Some kind) h then (section_table file h).raw else replicate h.SizeOfRawData 0)

-- ... drafts

-- the draft with the groups of the first k sections
abbrev pub grouped : Word → Tables → ℕ → Draft
grouped w t k = plain_draft (format_by w t.shape) (groups_by (keys_upto t k)) [] []

-- with all groups, and the carried ones of the first k sections
abbrev pub sectioned : Word → Tables → ℕ → Draft
sectioned w t k = plain_draft (format_by w t.shape) (groups_by (keys_of t)) (map (stored_section (keys_of t)) (collected (section_at t) k)) []

-- with all carried sections, and the carried ones of the first k symbols
abbrev pub symboled : Word → Tables → ℕ → Draft
symboled w t k =
    plain_draft (format_by w t.shape) (groups_by (keys_of t)) (map (stored_section (keys_of t)) (sections_in t)) (map (computed_symbol (symbols_in t)) (collected (symbol_at t) k))
