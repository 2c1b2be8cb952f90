-- Symbols (TIS OMF 1.1, "EXTDEF", "LEXTDEF", "PUBDEF", "LPUBDEF" and "COMDEF"; our profile).
use Rattle.std.specs.Prelude.{ℕ, ◌-◌, Bool, true, false, not, ◌&&◌, bytes_eq, if◌then◌else◌, List, [], ◌∷◌, ◌++◌, map, flat_map, find, fold, Option}
use Rattle.std.specs.{List.{list_any, enumerate_from, position_or_len}, Option.{option_map, option_map_or, option_and_then, is_some}}
use Rattle.oc_linking.specs.{declared.terms.Mark.TheVariants.{NoType}, declared.terms.Visibility.TheVariants.{Default}, declared.terms.Binding.{Binding}}
use Rattle.oc_linking.specs.{declared.terms.Binding.TheVariants.{Local, Global, Undefined, Common}, Parts.{Symbol}}
use Rattle.oc_linking.specs.declared.terms.Value.TheVariants as value
use Rattle.oc_neutral.specs.Powers.{natural_align}
use Rattle.oc_omf.specs.{declared.structures.Communal.{Communal}, Structures.{Public, External}, Entries.{Entry, all_read}, Tables.{Tables, tables_of}}

-- a name that is mentioned, of this module alone or not
pub record Mention : Type 0 where
  pub local : Bool
  pub name : List ℕ

-- two flags are one
abbrev pub agree : Bool → Bool → Bool
agree true b = b
agree false b = not b

-- two mentions are of one symbol
abbrev pub same_symbol : Mention → Mention → Bool
same_symbol x y = agree x.local y.local && bytes_eq x.name y.name

-- what a definition and an external mention
abbrev pub public_mention : Public → Mention
public_mention p = record { local = p.local; name = p.name }

abbrev pub external_mention : External → Mention
external_mention x = record { local = x.local; name = x.name }

-- the mentions of an entry
abbrev pub entry_mentions : Entry → List Mention
entry_mentions e = map public_mention (all_read e.publics) ++ map external_mention (all_read e.externals)

-- the list with one more, where it is new
abbrev pub with_new : List Mention → Mention → List Mention
with_new mentions x = if list_any (same_symbol x) mentions then mentions else mentions ++ x ∷ []

-- the symbols that entries mention, once each, in the order of first mention
unfoldable pub mentions_in : List Entry → List Mention
mentions_in entries = fold with_new [] (flat_map entry_mentions entries)

-- the number of a mention's symbol
abbrev pub number_of : List Mention → Mention → ℕ
number_of mentions x = position_or_len (same_symbol x) mentions

-- the definition of a symbol, where it has one
abbrev pub public_of : Tables → Mention → Option Public
public_of t x = find (λ p. same_symbol x (public_mention p)) t.publics

-- the length of its communal, where it has one
abbrev pub communal_of : Tables → Mention → Option ℕ
communal_of t x =
    option_and_then (λ (y : External). option_map (λ (c : Communal). c.length) y.communal) (find (λ y. same_symbol x (external_mention y) && is_some y.communal) t.externals)

-- a symbol that is defined: at a place of its segment
abbrev pub public_binding : Public → Binding
public_binding p = if p.local then Local (value.Place (p.segment - 1) p.offset) else Global (value.Place (p.segment - 1) p.offset)

-- the binding of a symbol: defined, else communal, else undefined
unfoldable pub binding_of : Tables → Mention → Binding
binding_of t x = option_map_or public_binding (public_of t x) (option_map_or (λ size. Common size (natural_align size)) (communal_of t x) Undefined)

-- a symbol with its number
abbrev pub symbol_of : Tables → ℕ × Mention → Symbol
symbol_of t x = record { name = x.1.name; binding = binding_of t x.1; mark = NoType; vis = Default; size = 0; pinned = false; number = x.0 }

-- the symbols
unfoldable pub symbols_in : List Entry → List Symbol
symbols_in entries = map (symbol_of (tables_of entries)) (enumerate_from 0 (mentions_in entries))
