-- What symbols must meet (TIS OMF 1.1, "EXTDEF", "LEXTDEF", "PUBDEF", "LPUBDEF" and "COMDEF"; our profile).
use Rattle.std.specs.Prelude.{ℕ, Bool, true, false, not, ◌&&◌, ◌||◌, nat_eq, nat_lt, bytes_eq, List, [], ◌∷◌, ◌++◌, length, take, map, get_or, Ok, Err}
use Rattle.std.specs.{List.{list_any, enumerate_from}, Option.{option_map_or}}
use Rattle.oc_base.specs.declared.code.Code.{Code}
use Rattle.oc_base.specs.declared.code.Code.TheVariants.{BadName, BadIndex, BadTable, SymbolKind, SymbolPastEnd, BadCommon, BadSymbol, DuplicateName}
use Rattle.oc_base.specs.declared.fault.Fault.{Fault}
use Rattle.oc_base.specs.declared.fault.Phase.TheVariants as phase
use Rattle.oc_linking.specs.FirstFault.{Condition, Stage}
use Rattle.oc_omf.specs.{declared.constants.TheConstants.{NEAR, MOST_SHORT_LENGTH}, declared.cut.Cut.{Cut}, declared.structures.PublicBase.{PublicBase}}
use Rattle.oc_omf.specs.{declared.structures.Communal.{Communal}, Cursor.{Read}, Structures.{Public, External, communal_width}, Entries.{Entry, all_read}}
use Rattle.oc_omf.specs.{Tables.{Tables, tables_of}, Sections.{size_at}, Symbols.{same_symbol, public_mention, external_mention}}
use Rattle.oc_omf.specs.declared.cut.Cut.TheVariants as cut

-- an entry with its number, what the entries before it define, and what all do
pub record EntryContext : Type 0 where
  pub index : ℕ
  pub before : Tables
  pub all : Tables
  pub entry : Entry

-- a fault of what is in an entry of a number, at a place
abbrev pub symbol_fault : ℕ × ℕ → Code → Fault
symbol_fault at code = record { phase = phase.Symbol; index = at.0; code = code; place = at.1 }

-- the code for a field that is cut
abbrev pub code_of : Cut → Code
code_of cut.Name = BadName
code_of cut.Index = BadIndex
code_of cut.Field = BadTable

-- the conditions on a structure: the first field of it that is cut, or else these
abbrev pub read_conditions : {X : Type 0} → ℕ → (ℕ × ℕ → X → List Condition) → Read X → List Condition
read_conditions index conditions s = elim s.part [ Ok y ↦ conditions (index, s.at) y | Err c ↦ (true, symbol_fault (index, s.at) (code_of c)) ∷ [] ]

-- the name is empty
abbrev pub is_empty : List ℕ → Bool
is_empty name = nat_eq (length name) 0

-- ... definitions

-- the conditions on where the symbols of an entry lie, after so many groups and segments
unfoldable pub base_conditions : ℕ → ℕ → ℕ × ℕ → PublicBase → List Condition
base_conditions groups segments at b =
    (nat_lt groups b.group || nat_lt segments b.segment, symbol_fault at BadIndex)
    ∷ (nat_eq b.segment 0, symbol_fault at SymbolKind)
    ∷ []

-- two definitions are of one symbol
abbrev pub same_public : Public → Public → Bool
same_public p q = same_symbol (public_mention p) (public_mention q)

-- the definitions before the one at a position
abbrev pub publics_before : EntryContext → ℕ → List Public
publics_before x j = x.before.publics ++ all_read (take j x.entry.publics)

-- the conditions on the definition at a position
unfoldable pub public_conditions : EntryContext → ℕ → ℕ × ℕ → Public → List Condition
public_conditions x j at p =
    (nat_lt (size_at x.before p.segment) p.offset, symbol_fault at SymbolPastEnd)
    ∷ (is_empty p.name, symbol_fault at SymbolKind)
    ∷ (list_any (same_public p) (publics_before x j), symbol_fault at DuplicateName)
    ∷ []

-- ... externals and communals

-- an external of this module alone is defined nowhere in it
abbrev pub is_undefined : Tables → External → Bool
is_undefined all y = y.local && not (list_any (λ p. same_symbol (external_mention y) (public_mention p)) all.publics)

-- the first byte of a communal's length is of no form
abbrev pub is_no_form : ℕ → Bool
is_no_form form = nat_lt MOST_SHORT_LENGTH form && nat_eq (communal_width form) 0

-- an external is a communal of that name and another length
abbrev pub is_other_length : List ℕ → Communal → External → Bool
is_other_length name c y = bytes_eq name y.name && option_map_or (λ (d : Communal). not (nat_eq c.length d.length)) y.communal false

-- the externals before the one at a position
abbrev pub externals_before : EntryContext → ℕ → List External
externals_before x j = x.before.externals ++ all_read (take j x.entry.externals)

-- the conditions on what an external gives as a communal, if it is one
unfoldable pub communal_conditions : ℕ × ℕ → Communal → List Condition
communal_conditions at c =
    (not (nat_eq c.kind NEAR), symbol_fault at SymbolKind)
    ∷ (is_no_form c.form || nat_eq c.length 0, symbol_fault at BadCommon)
    ∷ []

-- the conditions on the external at a position
unfoldable pub external_conditions : EntryContext → ℕ → ℕ × ℕ → External → List Condition
external_conditions x j at y =
    option_map_or (communal_conditions at) y.communal []
    ++ ((is_undefined x.all y, symbol_fault at BadSymbol)
    ∷ (is_empty y.name, symbol_fault at SymbolKind)
    ∷ (option_map_or (λ c. list_any (is_other_length y.name c) (externals_before x j)) y.communal false, symbol_fault at DuplicateName)
    ∷ [])

-- ... an entry

-- the conditions on each of its structures, in the order of their places
unfoldable pub symbol_table : EntryContext → List (List Condition)
symbol_table x =
    map (read_conditions x.index (base_conditions (length x.before.groups) (length x.before.segments))) x.entry.bases
    ++ (map (λ (p : ℕ × Read Public). read_conditions x.index (public_conditions x p.0) p.1) (enumerate_from 0 x.entry.publics)
    ++ map (λ (y : ℕ × Read External). read_conditions x.index (external_conditions x y.0) y.1) (enumerate_from 0 x.entry.externals))

-- its structures as a stage
abbrev pub symbol_stage : EntryContext → Stage
symbol_stage x = record { count = length (symbol_table x); conditions = λ j. get_or (symbol_table x) j [] }

-- an entry of a file with its number, and what the others define
abbrev pub entry_context : List Entry → ℕ × Entry → EntryContext
entry_context entries x = record { index = x.0; before = tables_of (take x.0 entries); all = tables_of entries; entry = x.1 }

-- the entries in their order
abbrev pub symbol_stages : List Entry → List Stage
symbol_stages entries = map (λ x. symbol_stage (entry_context entries x)) (enumerate_from 0 entries)
