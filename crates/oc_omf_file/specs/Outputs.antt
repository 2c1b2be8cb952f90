-- The entries of an output in their order, and the indexes by which they name one another (TIS OMF 1.1, "Record Formats"; our profile).
use Rattle.std.specs.Prelude.{ℕ, Bool, false, nat_eq, if◌then◌else◌, List, [], ◌∷◌, ◌++◌, length, map, flat_map, filter_map, Option, Some, None}
use Rattle.std.specs.List.{enumerate_from, position_or_len}
use Rattle.oc_linking.specs.{declared.terms.Binding.{Binding}, declared.terms.Binding.TheVariants.{Local, Global, Undefined, Common, Weak}}
use Rattle.oc_neutral.specs.{declared.section.Section.{Section}, declared.symbol.Symbol.{Symbol}, Objects.{Object}}
use Rattle.oc_omf_file.specs.{Names.{names_of, filled_from}, Pieces.{pieces_of, fields_between}}

-- an entry: sections and symbols by their positions in the object, data and their fixups by where the data begin and end
pub data Output : Type 0 where
  Header : Output
  Names : List (List ℕ) → Output
  Segment : ℕ → Section → Output
  Group : Output
  External : ℕ → Symbol → Output
  Communal : ℕ → Symbol → Output
  Public : ℕ → Symbol → Output
  Data : ℕ → Section → ℕ → ℕ → Output
  Fixups : ℕ → Section → ℕ → ℕ → Output
  End : Output

-- ... symbols

-- the entry of a symbol that is defined elsewhere
abbrev pub external_by : Binding → ℕ → Symbol → Option Output
external_by Undefined k s = Some (External k s)
external_by (Local v) k s = None
external_by (Global v) k s = None
external_by (Common size align) k s = None
external_by (Weak f) k s = None

-- of a communal
abbrev pub communal_by : Binding → ℕ → Symbol → Option Output
communal_by (Common size align) k s = Some (Communal k s)
communal_by (Local v) k s = None
communal_by (Global v) k s = None
communal_by Undefined k s = None
communal_by (Weak f) k s = None

-- and of one that is defined here
abbrev pub public_by : Binding → ℕ → Symbol → Option Output
public_by (Global v) k s = Some (Public k s)
public_by (Local v) k s = None
public_by Undefined k s = None
public_by (Common size align) k s = None
public_by (Weak f) k s = None

-- of a symbol with its position
abbrev pub external_output : ℕ × Symbol → Option Output
external_output x = external_by x.1.binding x.0 x.1

abbrev pub communal_output : ℕ × Symbol → Option Output
communal_output x = communal_by x.1.binding x.0 x.1

abbrev pub public_output : ℕ × Symbol → Option Output
public_output x = public_by x.1.binding x.0 x.1

-- those with an index as externals
abbrev pub indexed_outputs : Object → List Output
indexed_outputs n = filter_map external_output (enumerate_from 0 n.symbols) ++ filter_map communal_output (enumerate_from 0 n.symbols)

-- all of them: each is the first mention of its symbol
unfoldable pub symbol_outputs : Object → List Output
symbol_outputs n = indexed_outputs n ++ filter_map public_output (enumerate_from 0 n.symbols)

-- the entry is that of the symbol at a position
abbrev pub is_of_symbol : ℕ → Output → Bool
is_of_symbol k Header = false
is_of_symbol k (Names names) = false
is_of_symbol k (Segment j s) = false
is_of_symbol k Group = false
is_of_symbol k (External j s) = nat_eq j k
is_of_symbol k (Communal j s) = nat_eq j k
is_of_symbol k (Public j s) = nat_eq j k
is_of_symbol k (Data j s from to) = false
is_of_symbol k (Fixups j s from to) = false
is_of_symbol k End = false

-- the number of the symbol at a position; the externals come first
abbrev pub symbol_number : Object → ℕ → ℕ
symbol_number n k = position_or_len (is_of_symbol k) (symbol_outputs n)

-- ... data

-- the entries of a piece: its bytes, and its fixups where it has fields
abbrev pub piece_outputs : Object → ℕ → Section → ℕ × ℕ → List Output
piece_outputs n k s x =
    Data k s x.0 x.1 ∷ (if nat_eq (length (fields_between n k x.0 x.1)) 0 then [] else Fixups k s x.0 x.1 ∷ [])

-- the entries of the bytes of a section with its position
abbrev pub data_outputs : Object → ℕ × Section → List Output
data_outputs n x = flat_map (piece_outputs n x.0 x.1) (pieces_of n x.0 x.1)

-- ... all

-- the entry of a segment with its position
abbrev pub segment_output : ℕ × Section → Output
segment_output x = Segment x.0 x.1

-- all in their order
unfoldable pub outputs_of : Object → List Output
outputs_of n =
    Header ∷ map Names (filled_from [] (names_of n))
    ++ (map segment_output (enumerate_from 0 n.sections)
    ++ (Group ∷ symbol_outputs n
    ++ (flat_map (data_outputs n) (enumerate_from 0 n.sections)
    ++ End ∷ [])))
