-- Symbols that weak externals tag, and the positions of carried symbols (PE/COFF, "Auxiliary Format 3: Weak Externals"; our profile).
use Rattle.oc_coff.specs.{Files.{CoffFile, tables_in}, declared.constants.TheConstants.{IMAGE_SYM_CLASS_WEAK_EXTERNAL, IMAGE_SYM_TYPE_FUNCTION}}
use Rattle.oc_coff.specs.{Tables.{Tables}, Entries.{Entry, entries_in, entry_numbered, is_class, name_of}, Sections.{sections_in}}
use Rattle.oc_coff.specs.Symbols.{is_tagged, symbol_of, symbols_in, tag_of}
use Rattle.std.specs.Prelude.{◌≡◌, ℕ, ◌<◌, nat_eq, nat_lt, if◌then◌else◌, is_some, false, List, length, slice_get, slice_index_or, slice_set, Option, Some, None}
use Rattle.std.specs.Option.{option_and_then, option_map, unwrap_or}
use Rattle.oc_linking.specs.{declared.terms.Binding.{Binding}, declared.terms.Binding.TheVariants.{Local, Global, Undefined, Common, Weak}}
use Rattle.oc_linking.specs.{declared.terms.Fallback.{Fallback}, declared.terms.Mark.TheVariants.{NoType, Function}}
use Rattle.oc_linking.specs.declared.terms.Visibility.TheVariants.{Default}
use Rattle.oc_linking.specs.declared.terms.Fallback.TheVariants as fallback
use Rattle.oc_linking.specs.Parts as parts
use Rattle.oc_neutral.specs.declared.symbol.Symbol.{Symbol}
use Rattle.oc_shows.specs.Computed.{position_of}
use Rattle.oc_coff_judge.specs.Numbered.{entry_by}

-- entry j is a symbol: it has a place among all
pub record IsSymbolEntry (file : CoffFile) (j : ℕ) : Type 0 where
  pub place : ℕ
  pub there : slice_get (entries_in (tables_in file)) place ≡ Some (entry_by file j)

-- the number that a symbol tags, where it is a weak external
abbrev pub tag_by : Entry → Option ℕ
tag_by e = if is_class IMAGE_SYM_CLASS_WEAK_EXTERNAL e.symbol then tag_of e else None

-- the slots with one more that is tagged, where that is an entry
abbrev pub marked : List (Option ℕ) → Option ℕ → ℕ → List (Option ℕ)
marked slots None j = slots
marked slots (Some tag) j = if nat_lt tag (length slots) then slice_set slots tag (Some j) else slots

-- the slots have something exactly for the entries that a weak external tags
pub record AreTagged (t : Tables) (slots : List (Option ℕ)) : Type 0 where
  pub long : length slots ≡ length t.entries
  pub each : (j : ℕ) → j < length t.entries → is_some (slice_index_or slots j None) ≡ is_tagged (entries_in t) j

-- the position of a symbol among the carried ones, if it is one
abbrev pub carried_position : Tables → Entry → Option ℕ
carried_position t e = option_map (λ (x : parts.Symbol). position_of (symbols_in t) x.number) (symbol_of t.strings (sections_in t) (entries_in t) e)

-- the same of entry j, where that is a symbol
abbrev pub symbol_position : Tables → ℕ → Option ℕ
symbol_position t j = option_and_then (carried_position t) (entry_numbered (entries_in t) j)

-- a fallback whose symbol is named by an entry, with the position that the slots have for that
abbrev pub placed_fallback : List (Option ℕ) → Fallback → Fallback
placed_fallback slots (fallback.Place k offset) = fallback.Place k offset
placed_fallback slots fallback.Zero = fallback.Zero
placed_fallback slots (fallback.Name j) = fallback.Name (unwrap_or (slice_index_or slots j None) j)

-- the same of a binding
abbrev pub placed_binding : List (Option ℕ) → Binding → Binding
placed_binding slots (Local v) = Local v
placed_binding slots (Global v) = Global v
placed_binding slots Undefined = Undefined
placed_binding slots (Common size align) = Common size align
placed_binding slots (Weak f) = Weak (placed_fallback slots f)

-- the symbol of entry j, in an object, with that binding
abbrev pub symbol_as : CoffFile → ℕ → Binding → Symbol
symbol_as file j binding = record {
  name = name_of (tables_in file).strings (entry_by file j);
  binding = binding;
  mark = if nat_eq (entry_by file j).symbol.Type IMAGE_SYM_TYPE_FUNCTION then Function else NoType;
  vis = Default;
  size = 0;
  pinned = false;
  number = j;
}
