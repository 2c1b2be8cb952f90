-- What frames and targets name (TIS OMF 1.1, "FIXUPP"; our profile).
use Rattle.std.specs.Prelude.{ℕ, ◌-◌, Bool, false, ◌&&◌, ◌||◌, nat_eq, bytes_eq, if◌then◌else◌, List, codes, Option, Some, None}
use Rattle.std.specs.Option.{option_map, option_map_or, option_and_then}
use Rattle.oc_linking.specs.{Parts.{Symbol}, Values.{numbered}, Rules.{Named, Symbolic, Sectional}, Targets.{Target, symbol_target}}
use Rattle.oc_omf.specs.{declared.structures.Method.{Method}, Structures.{Group, Piece}, Entries.{Entry}, Tables.{Tables, tables_of, indexed, name_at}}
use Rattle.oc_omf.specs.Symbols.{Mention, external_mention, number_of, mentions_in, symbols_in}

-- what indexes mean: what the entries of a file define, and the numbers and bindings of its symbols
pub record Meaning : Type 0 where
  pub tables : Tables
  pub mentions : List Mention
  pub symbols : List Symbol

-- in the file of these entries
unfoldable pub meaning_of : List Entry → Meaning
meaning_of entries = record { tables = tables_of entries; mentions = mentions_in entries; symbols = symbols_in entries }

-- the symbol of an external by its index
abbrev pub external_at : Meaning → ℕ → Option Symbol
external_at m index = option_and_then (λ x. numbered m.symbols (number_of m.mentions (external_mention x))) (indexed m.tables.externals index)

-- a section as a target, which lies where it is placed and has no slot
abbrev pub section_target : ℕ → Target
section_target k = record { named = Sectional k; worth = λ p v. record { site = p.site k; slot = 0 } }

-- the target of a method: a segment or an external
abbrev pub target_of : Meaning → Method → Option Target
target_of m x =
    if nat_eq x.number 0 then Some (section_target (x.index - 1))
    else if nat_eq x.number 2 then option_and_then symbol_target (external_at m x.index)
    else None

-- what the frame of a method is, for a fixup of that data: a segment or an external, or the segment of the data
abbrev pub frame_of : Meaning → Option Piece → Method → Option Named
frame_of m piece x =
    if nat_eq x.number 4 then option_map (λ (d : Piece). Sectional (d.segment - 1)) piece
    else option_map (λ (t : Target). t.named) (target_of m x)

-- two things that are named are one
abbrev pub same_named : Named → Named → Bool
same_named (Symbolic j) (Symbolic k) = nat_eq j k
same_named (Sectional j) (Sectional k) = nat_eq j k
same_named x y = false

-- the frame is the group FLAT
abbrev pub is_flat : Meaning → Method → Bool
is_flat m frame =
    nat_eq frame.number 1 && option_map_or (λ (g : Group). bytes_eq (name_at m.tables g.name) (codes "FLAT")) (indexed m.tables.groups frame.index) false

-- the frame is what the target names
abbrev pub is_named_by : Meaning → Option Piece → Method → Target → Bool
is_named_by m piece frame t = option_map_or (same_named t.named) (frame_of m piece frame) false

-- the frame is that of the target: by method 5, or since both are one
abbrev pub is_home : Meaning → Option Piece → Method → Target → Bool
is_home m piece frame t = nat_eq frame.number 5 || is_named_by m piece frame t
