-- Lines of symbols: the first two by hand from the description of the command, the others from its rules.
use Rattle.std.proofs.Common.{◌≡◌, ℕ, false, List, [], ◌∷◌, ◌++◌, refl}
use Rattle.std.specs.{Prelude.{codes, None}, Fmt.{digits}}
use Rattle.oc_base.specs.{declared.format.Format.{Format}, declared.format.Format.TheVariants.{Elf32, Elf64, Mac64}}
use Rattle.oc_linking.specs.{declared.terms.Kind.TheVariants.{Code}, declared.terms.Mark.TheVariants.{NoType}, declared.terms.Visibility.TheVariants.{Default}}
use Rattle.oc_linking.specs.{declared.terms.Binding.{Binding}, declared.terms.Binding.TheVariants.{Local, Global, Undefined, Common, Weak}}
use Rattle.oc_linking.specs.declared.terms.Value.TheVariants as value
use Rattle.oc_linking.specs.declared.terms.Fallback.TheVariants as fallback
use Rattle.oc_neutral.specs.{declared.section.Section.{Section}, declared.symbol.Symbol.{Symbol}, Objects.{Object}}
use Rattle.oc_dump.specs.Lines.{hex, shown_name, line_of, symbol_lines_of}

-- a symbol of that name and binding
symbol : List ℕ → Binding → Symbol
symbol name b = record { name = name; binding = b; mark = NoType; vis = Default; size = 7; pinned = false; number = 2 }

-- a section with that number, of 48 bytes, which are left out
section : ℕ → Section
section number = record { name = codes ".text"; kind = Code; align = 16; size = 48; bytes = []; tag = 0; number = number; group = None }

-- an object of these symbols, with sections of the numbers 1 and 12
object : Format → List Symbol → Object
object format symbols = record { format = format; groups = []; sections = section 1 ∷ section 12 ∷ []; symbols = symbols; relocs = [] ∷ [] ∷ [] }

-- the worked case: `main` at the start of section 1, and `foo`
symbols_listed : symbol_lines_of (object Elf32 (symbol (codes "main") (Global (value.Place 0 0)) ∷ symbol (codes "foo") Undefined ∷ []))
    ≡ codes "G 00000000 1 main\n" ++ codes "U 00000000 - foo\n"
unfolding symbol object section symbol_lines_of line_of hex digits
symbols_listed = refl

-- sixteen digits in 64 bits
undefined : line_of (object Mac64 []) (symbol (codes "foo") Undefined) ≡ codes "U 0000000000000000 - foo\n"
unfolding symbol object section line_of hex digits
undefined = refl

-- a Local is listed too
local_absolute : line_of (object Elf64 []) (symbol (codes "@comp.id") (Local (value.Absolute 0xC0DE))) ≡ codes "L 000000000000c0de abs @comp.id\n"
unfolding symbol object section line_of hex digits
local_absolute = refl

local_in_section_12 : line_of (object Elf32 []) (symbol (codes "a") (Local (value.Place 1 47))) ≡ codes "L 0000002f 12 a\n"
unfolding symbol object section line_of hex digits
local_in_section_12 = refl

-- a common shows its size, and not that of the symbol
common : line_of (object Elf32 []) (symbol (codes "c") (Common 12 4)) ≡ codes "C 0000000c - c\n"
unfolding symbol object section line_of hex digits
common = refl

-- a Weak shows its place, where its fallback is one
weak_place : line_of (object Elf32 []) (symbol (codes "w") (Weak (fallback.Place 0 16))) ≡ codes "W 00000010 1 w\n"
unfolding symbol object section line_of hex digits
weak_place = refl

weak_zero : line_of (object Elf32 []) (symbol (codes "w") (Weak fallback.Zero)) ≡ codes "W 00000000 - w\n"
unfolding symbol object section line_of hex digits
weak_zero = refl

-- a Weak whose fallback is another symbol has no place, though that symbol may have one
weak_name : line_of (object Elf32 (symbol (codes "main") (Global (value.Place 0 16)) ∷ [])) (symbol (codes "w") (Weak (fallback.Name 0))) ≡ codes "W 00000000 - w\n"
unfolding symbol object section line_of hex digits
weak_name = refl

-- the backslash, and the bytes before 21 and behind 7E hexadecimal
escaped : shown_name (0x5C ∷ 0x20 ∷ 0x21 ∷ 0x7E ∷ 0x7F ∷ 0xFF ∷ 0 ∷ 0x0A ∷ []) ≡ codes "\\x5c\\x20!~\\x7f\\xff\\x00\\x0a"
unfolding hex digits
escaped = refl
