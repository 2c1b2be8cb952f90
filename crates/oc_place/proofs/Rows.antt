-- Texts of placements, and what they give. The answers are those of an independent model of the text form.
use Rattle.std.proofs.Common.{◌≡◌, ℕ, false, true, List, [], ◌∷◌, ◌++◌, map, Option, Some, None, Result, Ok, Err, refl}
use Rattle.std.specs.Prelude.{codes}
use Rattle.oc_base.specs.declared.format.Word.TheVariants.{W32}
use Rattle.oc_linking.specs.{declared.terms.Mark.TheVariants.{NoType}, declared.terms.Visibility.TheVariants.{Default}, declared.terms.Binding.{Binding}}
use Rattle.oc_linking.specs.{declared.terms.Binding.TheVariants.{Local, Global, Undefined, Common, Weak}, Parts.{Symbol}}
use Rattle.oc_linking.specs.declared.terms.Value.TheVariants as value
use Rattle.oc_linking.specs.declared.terms.Fallback.TheVariants as fallback
use Rattle.oc_place.specs.declared.fault.PlaceCode.{PlaceCode}
use Rattle.oc_place.specs.declared.fault.PlaceCode.TheVariants.{BadLine, TooLarge, BadSection, NoSymbol, Repeated, Unplaced, Misaligned, PastEnd, Unnamed, Defined}
use Rattle.oc_place.specs.{Digits.{hex_of, decimal_of}, NameTexts.{name_of}, Entries.{shape_by, shape_of, line_of}, Written.{Bad, with_line, notes_of}}
use Rattle.oc_place.specs.{Footprints.{Footprint}, Placings.{Placing, placed_in}}

-- a symbol of that name and binding
abbrev symbol : List ℕ → Binding → Symbol
symbol name binding = record { name = name; binding = binding; mark = NoType; vis = Default; size = 0; pinned = false; number = 0 }

-- two sections, the second alone in a group; a Local, a Global in each, an Undefined, a common and a Weak
abbrev footprint : Footprint
footprint = record {
  word = W32;
  sections = record { align = 16; size = 6; group = None } ∷ record { align = 4; size = 8; group = Some 0 } ∷ [];
  groups = 1;
  symbols = symbol (codes "main") (Local (value.Place 0 0)) ∷ symbol (codes "main") (Global (value.Place 0 0)) ∷ symbol (codes "t") (Global (value.Place 1 0))
      ∷ symbol (codes "foo") Undefined ∷ symbol (codes "c") (Common 8 8) ∷ symbol (codes "w") (Weak fallback.Zero) ∷ [];
}

-- lines that place all
abbrev sections : List ℕ
sections = codes "section 1 1000 1000 1\nsection 2 2000 2000 2\n"

abbrev outside : List ℕ
outside = codes "name 3000 3000 3 0 foo\nname 4008 4000 4 8 c\n"

-- the fault of a text; none where it is good
abbrev fault_of : List ℕ → Option (ℕ × PlaceCode)
fault_of text = by (placed_in footprint text)
  where
    by : Result Placing Bad → Option (ℕ × PlaceCode)
    by (Ok x) = None
    by (Err bad) = Some (bad.line, bad.code)

-- a text, and what it gives
abbrev Row : Type 0
Row = List ℕ × Option (ℕ × PlaceCode)

abbrev bad : List ℕ → ℕ → PlaceCode → Row
bad text line code = (text, Some (line, code))

abbrev rows : List Row
rows =
    (sections ++ outside, None)
    ∷ (sections ++ outside ++ codes "image 10\ngot ffffffff\nslot 4 main\nname 0 0 0 0 w\n", None)
    ∷ (codes "drop 1\nsection 0000000001 0000000000001000 0 0\n" ++ outside ++ codes "name 5000 0 0 0 t\n", None)
    ∷ bad [] 1 Unplaced
    ∷ bad (codes "\n") 1 BadLine
    ∷ bad (codes "image 1") 1 BadLine
    ∷ bad (codes "image 1\nimage 2 \n") 2 BadLine
    ∷ bad (codes "image  1\n") 1 BadLine
    ∷ bad (codes "image A\n") 1 BadLine
    ∷ bad (codes "image 00000000000000001\n") 1 BadLine
    ∷ bad (codes "image\n") 1 BadLine
    ∷ bad (codes "images 1\n") 1 BadLine
    ∷ bad (codes "section 1 1000 1000\n") 1 BadLine
    ∷ bad (codes "section 00000000001 1000 1000 1\n") 1 BadLine
    ∷ bad (codes "name 1 1 1 1 \n") 1 BadLine
    ∷ bad (codes "slot 1 fo\\o\n") 1 BadLine
    ∷ bad (codes "slot 1 foo\\x6\n") 1 BadLine
    ∷ bad (codes "slot 1 a b\n") 1 BadLine
    ∷ bad (codes "section 0 0 0 100000000\n") 1 TooLarge
    ∷ bad (codes "section 3 0 0 0\n") 1 BadSection
    ∷ bad (codes "drop 2\n") 1 BadSection
    ∷ bad (codes "slot 1 \\x00\n") 1 NoSymbol
    ∷ bad (codes "slot 1 fo\n") 1 NoSymbol
    ∷ bad (codes "slot 1 \\x66oo\nname 0 0 0 0 foo\n") 2 Repeated
    ∷ bad (codes "section 01 0 0 0\nsection 1 0 0 0\n") 2 Repeated
    ∷ bad (codes "got 0\ngot 0\n") 2 Repeated
    ∷ bad (codes "drop 1\ndrop 1\n") 2 Repeated
    ∷ bad (codes "section 1 1000 0 0\n") 2 Unplaced
    ∷ bad (codes "section 1 1008 0 0\n") 1 Misaligned
    ∷ bad (codes "section 1 0 0 0\nsection 2 fffffffe 0 0\n") 2 Misaligned
    ∷ bad (codes "section 1 0 0 0\nsection 2 fffffffc 0 0\n") 2 PastEnd
    ∷ bad (codes "section 1 fffffff0 0 0\nsection 2 fffffff8 0 0\n") 4 Unnamed
    ∷ bad (sections ++ codes "slot 4 foo\n") 4 Unnamed
    ∷ bad (sections ++ codes "name 3000 0 0 0 foo\n") 5 Unnamed
    ∷ bad (sections ++ codes "name 3000 0 0 0 foo\nname 4 0 0 0 c\n") 5 Misaligned
    ∷ bad (sections ++ codes "name 3000 0 0 0 t\n") 3 Defined
    ∷ bad (codes "drop 1\nsection 1 1000 0 0\n" ++ outside) 3 Unnamed
    ∷ []

texts_are_placed : map (λ (row : Row). fault_of row.0) rows ≡ map (λ (row : Row). row.1) rows
unfolding placed_in notes_of with_line line_of shape_of shape_by name_of hex_of decimal_of
texts_are_placed = refl

-- an object whose one symbol is an Undefined, and no section
abbrev foo_alone : Footprint
foo_alone = record { word = W32; sections = []; groups = 0; symbols = symbol (codes "foo") Undefined ∷ [] }

-- its name is given an address, with a byte of it as two digits
foo_is_placed : placed_in foo_alone (codes "image 400000\nname 2000 1000 2 8 f\\x6fo\n")
    ≡ Ok (record { image = 4194304; got = 0; spots = []; dropped = []; given = record { spot = Some (record { address = 8192; home = 4096; number = 2 }); slot = 8 } ∷ [] })
unfolding placed_in notes_of with_line line_of shape_of shape_by name_of hex_of decimal_of
foo_is_placed = refl

-- a slot is no address
foo_has_no_address : placed_in foo_alone (codes "slot 8 foo\n") ≡ Err (record { line = 1; code = Unnamed })
unfolding placed_in notes_of with_line line_of shape_of shape_by name_of hex_of decimal_of
foo_has_no_address = refl

-- where the sections of `footprint` lie, the second of which is discarded, and what is given of its names
all_is_placed : placed_in footprint (codes "drop 1\nsection 2 7 7 7\nsection 1 1000 2000 3\n" ++ outside ++ codes "name 5000 0 0 0 t\ngot a\n")
    ≡ Ok (record {
      image = 0;
      got = 10;
      spots = record { address = 4096; home = 8192; number = 3 } ∷ record { address = 0; home = 0; number = 0 } ∷ [];
      dropped = true ∷ [];
      given = record { spot = None; slot = 0 } ∷ record { spot = None; slot = 0 } ∷ record { spot = Some (record { address = 20480; home = 0; number = 0 }); slot = 0 }
          ∷ record { spot = Some (record { address = 12288; home = 12288; number = 3 }); slot = 0 }
          ∷ record { spot = Some (record { address = 16392; home = 16384; number = 4 }); slot = 8 } ∷ record { spot = None; slot = 0 } ∷ [];
    })
unfolding placed_in notes_of with_line line_of shape_of shape_by name_of hex_of decimal_of
all_is_placed = refl
