-- The lines of a placement (our profile).
use Rattle.std.specs.{Prelude.{ℕ, bytes_eq, codes, if◌then◌else◌, List, [], ◌∷◌, Option, Some, None}, Option.{option_map, option_and_then}}
use Rattle.oc_place.specs.{declared.spot.Spot.{Spot}, declared.entry.PlacementLine.{PlacementLine}, NameTexts.{name_of}}
use Rattle.oc_place.specs.Parts.{parts_of, hex_next, decimal_next, spot_next, whole, only}
use Rattle.oc_place.specs.declared.entry.PlacementLine.TheVariants as entry

-- what a line says, and the text of the name that it is about; an entry about no name has no text
abbrev pub Shape : Type 0
Shape = PlacementLine × List ℕ

-- an entry about no name
abbrev pub unnamed : Option PlacementLine → Option Shape
unnamed e = option_map (λ e. (e, [])) e

-- `image H`
abbrev pub image_in : List (List ℕ) → Option PlacementLine
image_in parts = option_and_then (λ (h : ℕ × List (List ℕ)). whole (entry.Image h.0) h.1) (hex_next parts)

-- `got H`
abbrev pub got_in : List (List ℕ) → Option PlacementLine
got_in parts = option_and_then (λ (h : ℕ × List (List ℕ)). whole (entry.Got h.0) h.1) (hex_next parts)

-- `section K H H H`
abbrev pub section_in : List (List ℕ) → Option PlacementLine
section_in parts =
    option_and_then (λ (k : ℕ × List (List ℕ)). option_and_then (λ (s : Spot × List (List ℕ)). whole (entry.Section k.0 s.0) s.1) (spot_next k.1)) (decimal_next parts)

-- `drop K`
abbrev pub drop_in : List (List ℕ) → Option PlacementLine
drop_in parts = option_and_then (λ (k : ℕ × List (List ℕ)). whole (entry.Drop k.0) k.1) (decimal_next parts)

-- `name H H H H NAME`
abbrev pub name_in : List (List ℕ) → Option Shape
name_in parts =
    option_and_then (λ (s : Spot × List (List ℕ)).
    option_and_then (λ (g : ℕ × List (List ℕ)). option_map (λ text. (entry.Name s.0 g.0, text)) (only g.1)) (hex_next s.1)) (spot_next parts)

-- `slot H NAME`
abbrev pub slot_in : List (List ℕ) → Option Shape
slot_in parts = option_and_then (λ (g : ℕ × List (List ℕ)). option_map (λ text. (entry.Slot g.0, text)) (only g.1)) (hex_next parts)

-- the shape of a line with this first word and these parts after it
unfoldable pub shape_by : List ℕ → List (List ℕ) → Option Shape
shape_by word parts =
    if bytes_eq word (codes "section") then unnamed (section_in parts)
    else (if bytes_eq word (codes "name") then name_in parts
    else (if bytes_eq word (codes "slot") then slot_in parts
    else (if bytes_eq word (codes "drop") then unnamed (drop_in parts)
    else (if bytes_eq word (codes "image") then unnamed (image_in parts)
    else (if bytes_eq word (codes "got") then unnamed (got_in parts)
    else None)))))

-- of parts
abbrev pub shape_in : List (List ℕ) → Option Shape
shape_in [] = None
shape_in (word ∷ parts) = shape_by word parts

-- the shape of a line
unfoldable pub shape_of : List ℕ → Option Shape
shape_of line = shape_in (parts_of line)

-- no name
abbrev pub no_name : List ℕ
no_name = []

-- an entry with the name that a text means
abbrev pub with_name : PlacementLine → List ℕ → Option Shape
with_name e text = option_map (λ name. (e, name)) (name_of text)

-- an entry with the name that it is about, by that text
abbrev pub named_by : PlacementLine → List ℕ → Option Shape
named_by (entry.Image h) text = Some (entry.Image h, no_name)
named_by (entry.Got h) text = Some (entry.Got h, no_name)
named_by (entry.Section k s) text = Some (entry.Section k s, no_name)
named_by (entry.Drop k) text = Some (entry.Drop k, no_name)
named_by (entry.Name s g) text = with_name (entry.Name s g) text
named_by (entry.Slot g) text = with_name (entry.Slot g) text

-- the same of a shape
abbrev pub named : Shape → Option Shape
named shape = named_by shape.0 shape.1

-- what a line says; none where it has none of the forms
unfoldable pub line_of : List ℕ → Option Shape
line_of line = option_and_then named (shape_of line)
