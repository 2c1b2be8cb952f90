-- The symbols of an object as lines of text (our profile).
use Rattle.std.specs.Prelude.{ℕ, ◌-◌, Bool, false, not, ◌&&◌, nat_eq, nat_le, if◌then◌else◌, List, [], ◌∷◌, ◌++◌, codes, length, replicate, slice_get}
use Rattle.std.specs.{Option.{option_map_or}, List.{flat_map}, Fmt.{decimal, digits}}
use Rattle.oc_base.specs.{declared.format.Word.{Word}, declared.format.Word.TheVariants.{W32, W64}, Formats.{word_for}}
use Rattle.oc_linking.specs.{declared.terms.Value.{Value}, declared.terms.Binding.{Binding}}
use Rattle.oc_linking.specs.declared.terms.Binding.TheVariants.{Local, Global, Undefined, Common, Weak}
use Rattle.oc_linking.specs.declared.terms.Value.TheVariants as value
use Rattle.oc_linking.specs.declared.terms.Fallback.TheVariants as fallback
use Rattle.oc_neutral.specs.{declared.section.Section.{Section}, declared.symbol.Symbol.{Symbol}, Objects.{Object}}

-- ... numbers and names

-- a number in lower-case hexadecimal, with zeros before it to that many digits
unfoldable pub hex : ℕ → ℕ → List ℕ
hex count x = replicate (count - length (digits 16 false x)) 48 ++ digits 16 false x

-- how many digits a value has
abbrev pub digit_count : Word → ℕ
digit_count W32 = 8
digit_count W64 = 16

-- the byte is shown as it is: it is a graphic character of ASCII, and no backslash
abbrev pub is_plain : ℕ → Bool
is_plain byte = nat_le 33 byte && nat_le byte 126 && not (nat_eq byte 92)

-- a byte of a name; `\x` and two digits where it is not plain
abbrev pub shown_byte : ℕ → List ℕ
shown_byte byte = if is_plain byte then byte ∷ [] else codes "\\x" ++ hex 2 byte

-- a name
abbrev pub shown_name : List ℕ → List ℕ
shown_name name = flat_map shown_byte name

-- ... what is shown of a binding

-- its letter
abbrev pub letter : Binding → List ℕ
letter (Local v) = codes "L"
letter (Global v) = codes "G"
letter Undefined = codes "U"
letter (Common size align) = codes "C"
letter (Weak f) = codes "W"

-- an offset, or an absolute number
abbrev pub number_shown : Value → ℕ
number_shown (value.Place k offset) = offset
number_shown (value.Absolute x) = x

-- its value; a Weak has one where its fallback is a place, and a Common has its size
abbrev pub value_shown : Binding → ℕ
value_shown (Local v) = number_shown v
value_shown (Global v) = number_shown v
value_shown Undefined = 0
value_shown (Common size align) = size
value_shown (Weak (fallback.Place k offset)) = offset
value_shown (Weak fallback.Zero) = 0
value_shown (Weak (fallback.Name k)) = 0

-- the section at a position, by its number in the input
abbrev pub section_shown : List Section → ℕ → List ℕ
section_shown sections k = decimal (option_map_or (λ (s : Section). s.number) (slice_get sections k) 0)

-- where a value lies
abbrev pub holder_shown : List Section → Value → List ℕ
holder_shown sections (value.Place k offset) = section_shown sections k
holder_shown sections (value.Absolute x) = codes "abs"

-- where it lies: in a section, at an absolute number, or nowhere that the object gives
abbrev pub place_shown : List Section → Binding → List ℕ
place_shown sections (Local v) = holder_shown sections v
place_shown sections (Global v) = holder_shown sections v
place_shown sections Undefined = codes "-"
place_shown sections (Common size align) = codes "-"
place_shown sections (Weak (fallback.Place k offset)) = section_shown sections k
place_shown sections (Weak fallback.Zero) = codes "-"
place_shown sections (Weak (fallback.Name k)) = codes "-"

-- ... the lines

-- what comes before the name: letter, value and section, each with a blank after it
abbrev pub front_of : Word → List Section → Binding → List ℕ
front_of word sections binding =
    letter binding ++ codes " " ++ hex (digit_count word) (value_shown binding) ++ codes " " ++ place_shown sections binding ++ codes " "

-- the line of a symbol
unfoldable pub line_of : Object → Symbol → List ℕ
line_of n s = front_of (word_for n.format) n.sections s.binding ++ shown_name s.name ++ codes "\n"

-- the lines of all symbols, in their order
unfoldable pub symbol_lines_of : Object → List ℕ
symbol_lines_of n = flat_map (line_of n) n.symbols
