-- What is built of a file, step by step (Mach-O reference; our profile).
use Rattle.std.specs.Prelude.{◌≡◌, ℕ, ◌≤◌, Bool, true, false, ◌&&◌, if◌then◌else◌, List, [], length, map, take, slice_get, Option}
use Rattle.std.specs.Option.{option_and_then, option_map}
use Rattle.oc_base.specs.declared.format.Word.{Word}
use Rattle.oc_linking.specs.{declared.terms.Keep.{Keep}, declared.terms.Mark.TheVariants.{NoType}, declared.terms.Visibility.TheVariants.{Default, Hidden}}
use Rattle.oc_linking.specs.Parts as parts
use Rattle.oc_neutral.specs.{declared.symbol.Symbol.{Symbol}, Building.{Draft}, Invariants.{AreBytes}, KindRules.{has}}
use Rattle.oc_shows.specs.{Computed.{computed_symbol, position_of}, Started.{plain_draft, stored_section}}
use Rattle.oc_shelf.specs.Reading.Collected.{collected}
use Rattle.oc_macho.specs.{declared.constants.TheConstants.{N_PEXT, N_SECT}, declared.nlist.Nlist.{Nlist}, MachHeader.{mach_format}, Tables.{Tables, tables_of}}
use Rattle.oc_macho.specs.{Sections.{sections_in}, Symbols.{binding_of, is_external, is_type, name_of, offset_of, symbol_of}, SymbolFaults.{is_odd}}
use Rattle.oc_macho.specs.{Entries.{is_pinned}, Rules.{symbols_in}}

-- the tables are those of a file
pub record AreRead (t : Tables) : Type 0 where
  pub word : Word
  pub file : List ℕ
  pub are : t ≡ tables_of word file
  pub bytes : AreBytes file

-- symbol number j, where it is carried
unfoldable pub symbol_at : Tables → Keep → ℕ → Option parts.Symbol
symbol_at t keep j = option_and_then (symbol_of t (is_pinned t keep j) j) (slice_get t.symbols j)

-- its position among the carried ones, where it is carried
abbrev pub symbol_position : Tables → Keep → ℕ → Option ℕ
symbol_position t keep j = option_map (λ (x : parts.Symbol). position_of (symbols_in t keep) x.number) (symbol_at t keep j)

-- what a symbol that is defined has where it has no fault: its type is one that is read, and its offset is one in its section
pub record IsSound (t : Tables) (s : Nlist) : Type 0 where
  pub known : is_odd s ≡ false
  pub low : is_type N_SECT s ≡ true → offset_of t s ≤ 2147483647

-- symbol number j as it is in an object
abbrev pub symbol_as : Tables → Bool → ℕ → Nlist → Symbol
symbol_as t pinned j s = record {
  name = name_of t s;
  binding = binding_of t s;
  mark = NoType;
  vis = if is_external s && has s.n_type N_PEXT then Hidden else Default;
  size = 0;
  pinned = pinned;
  number = j;
}

-- ... drafts

-- the draft with the first n sections
abbrev pub sectioned : Tables → ℕ → Draft
sectioned t n = plain_draft (mach_format t.word) [] (map (stored_section []) (take n (sections_in t))) []

-- with all sections, and the carried ones of the first n symbols
abbrev pub symboled : Tables → Keep → ℕ → Draft
symboled t keep n =
    plain_draft (mach_format t.word) [] (map (stored_section []) (sections_in t)) (map (computed_symbol (symbols_in t keep)) (collected (symbol_at t keep) n))

-- with all symbols: what there is before the relocations
abbrev pub started : Tables → Keep → Draft
started t keep = symboled t keep (length t.symbols)
