-- Sections of which a linker keeps one copy, and their groups (PE/COFF, "COMDAT Sections" and "Auxiliary Format 5: Section Definitions"; our profile).
use Rattle.std.specs.Prelude.{ℕ, ◌-◌, Bool, false, ◌&&◌, nat_eq, if◌then◌else◌, List, filter, slice_get, Option, Some, None}
use Rattle.std.specs.Option.{option_map, option_map_or, option_and_then}
use Rattle.oc_neutral.specs.{KindRules.{has}, declared.coff.TheConstants.{IMAGE_SCN_LNK_COMDAT}}
use Rattle.oc_coff.specs.{declared.section_header.SectionHeader.{SectionHeader}, declared.section_aux.SectionAux.{SectionAux}}
use Rattle.oc_coff.specs.declared.constants.TheConstants.{IMAGE_COMDAT_SELECT_ANY, IMAGE_COMDAT_SELECT_ASSOCIATIVE, IMAGE_SYM_CLASS_EXTERNAL, IMAGE_SYM_CLASS_STATIC}
use Rattle.oc_coff.specs.{Tables.{SectionTable, Slot, Tables}, Entries.{Entry, entries_in, name_of, is_class, is_in}}

-- the section of a number
abbrev pub section_numbered : Tables → ℕ → Option SectionTable
section_numbered t k = if nat_eq k 0 then None else slice_get t.sections (k - 1)

-- a linker treats copies of the section as its own symbol says
abbrev pub is_comdat : SectionHeader → Bool
is_comdat h = has h.Characteristics IMAGE_SCN_LNK_COMDAT

-- the symbols of section number k, in their order
abbrev pub symbols_of : List Entry → ℕ → List Entry
symbols_of entries k = filter (λ (e : Entry). is_in k e.symbol) entries

-- what a section's own symbol, a STATIC symbol of value 0, says of it in its auxiliary entry
abbrev pub own_definition : Entry → Option SectionAux
own_definition e = if is_class IMAGE_SYM_CLASS_STATIC e.symbol && nat_eq e.symbol.Value 0 then option_map (λ (x : Slot). x.section) e.aux else None

-- what the first symbol of section number k says of it
abbrev pub definition_of : List Entry → ℕ → Option SectionAux
definition_of entries k = option_and_then own_definition (slice_get (symbols_of entries k) 0)

-- the same, where the section is one of which there are copies
unfoldable pub definition_in : Tables → ℕ → Option SectionAux
definition_in t k = if option_map_or (λ (x : SectionTable). is_comdat x.header) (section_numbered t k) false then definition_of (entries_in t) k else None

-- which copies are kept
abbrev pub selects : ℕ → Option SectionAux → Bool
selects selection d = option_map_or (λ (a : SectionAux). nat_eq a.Selection selection) d false

-- the second symbol of section number k, where it is EXTERNAL
abbrev pub key_symbol : List Entry → ℕ → Option Entry
key_symbol entries k = option_and_then (λ (e : Entry). if is_class IMAGE_SYM_CLASS_EXTERNAL e.symbol then Some e else None) (slice_get (symbols_of entries k) 1)

-- the key of the group that section number k leads: any copy is kept, and that symbol has the name
unfoldable pub led_key : Tables → ℕ → Option (List ℕ)
led_key t k = if selects IMAGE_COMDAT_SELECT_ANY (definition_in t k) then option_map (name_of t.strings) (key_symbol (entries_in t) k) else None

-- the key of the group of section number k with this definition: it leads the group, or is kept with a section that leads it
abbrev pub key_by : Tables → ℕ → SectionAux → Option (List ℕ)
key_by t k d = if nat_eq d.Selection IMAGE_COMDAT_SELECT_ASSOCIATIVE then led_key t d.Number else led_key t k

-- the key of the group of section number k, where it is in one
unfoldable pub key_in : Tables → ℕ → Option (List ℕ)
key_in t k = option_and_then (key_by t k) (definition_in t k)
