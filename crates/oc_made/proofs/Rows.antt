-- The object of a few functions, worked by hand.
use Rattle.std.proofs.Common.{◌≡◌, ℕ, List, [], ◌∷◌, map, refl}
use Rattle.std.specs.{Prelude.{codes, drop, length, negsuc}, Fmt.{digits}}
use Rattle.oc_base.specs.{declared.format.Format.TheVariants.{Elf64}, declared.format.Word.TheVariants.{W32, W64}}
use Rattle.oc_linking.specs.declared.terms.Base.TheVariants as base
use Rattle.oc_linking.specs.{declared.terms.Binding.{Binding}, declared.terms.Binding.TheVariants.{Global, Undefined}}
use Rattle.oc_linking.specs.{declared.terms.Check.TheVariants.{Signed}, declared.terms.Hint.TheVariants.{Plain}, declared.terms.Width.TheVariants.{Four}}
use Rattle.oc_linking.specs.declared.terms.Less.TheVariants as less
use Rattle.oc_linking.specs.declared.terms.Value.TheVariants as value
use Rattle.oc_chains.specs.declared.field.Field.{Field}
use Rattle.oc_neutral.specs.{declared.reloc.Reloc.{Reloc}, declared.reloc.Target.{Target}, declared.symbol.Symbol.{Symbol}}
use Rattle.oc_neutral.specs.declared.reloc.Target.TheVariants as target
use Rattle.oc_made.specs.Functions.{calls_of, code_of, made_object, symbols_of}

-- the name and the number of a symbol
abbrev labelled : Symbol → List ℕ × ℕ
labelled s = (s.name, s.number)

-- with its binding
abbrev bound : Symbol → List ℕ × Binding × ℕ
bound s = (s.name, s.binding, s.number)

-- where a call stands, and what it calls
abbrev placed : Field Reloc → ℕ × Target
placed x = (x.at, x.item.target)

-- two functions: the bytes that COFF has for them, as another program wrote them
two-bytes : code_of 2 ≡
    0xE8 ∷ 0 ∷ 0 ∷ 0 ∷ 0 ∷ 0xE8 ∷ 0 ∷ 0 ∷ 0 ∷ 0 ∷ 0x90 ∷ 0x90 ∷ 0x90 ∷ 0x90 ∷ 0x90 ∷ 0x90
    ∷ 0xE8 ∷ 0 ∷ 0 ∷ 0 ∷ 0 ∷ 0xE8 ∷ 0 ∷ 0 ∷ 0 ∷ 0 ∷ 0x90 ∷ 0x90 ∷ 0x90 ∷ 0x90 ∷ 0x90 ∷ 0x90 ∷ []
unfolding code_of
two-bytes = refl

-- their symbols, by name and number
two-symbols : map labelled (symbols_of 2) ≡ (codes "f_0", 2) ∷ (codes "f_1", 3) ∷ (codes "x_0", 4) ∷ (codes "x_1", 5) ∷ []
unfolding symbols_of digits
two-symbols = refl

-- twelve functions have ten symbols outside
twelve-symbols : map bound (drop 11 (symbols_of 12)) ≡
    (codes "f_11", Global (value.Place 0 176), 13)
    ∷ (codes "x_0", Undefined, 14) ∷ (codes "x_1", Undefined, 15) ∷ (codes "x_2", Undefined, 16) ∷ (codes "x_3", Undefined, 17) ∷ (codes "x_4", Undefined, 18)
    ∷ (codes "x_5", Undefined, 19) ∷ (codes "x_6", Undefined, 20) ∷ (codes "x_7", Undefined, 21) ∷ (codes "x_8", Undefined, 22) ∷ (codes "x_9", Undefined, 23) ∷ []
unfolding symbols_of digits
twelve-symbols = refl

-- three functions: what each calls, and where
three-calls : map placed (calls_of W32 3) ≡
    (1, target.Symbol 1) ∷ (6, target.Symbol 3) ∷ (17, target.Symbol 0) ∷ (22, target.Symbol 4) ∷ (33, target.Symbol 2) ∷ (38, target.Symbol 5) ∷ []
unfolding calls_of
three-calls = refl

-- the twelfth function calls the second symbol outside
twelve-calls : map placed (drop 22 (calls_of W64 12)) ≡ (177, target.Symbol 8) ∷ (182, target.Symbol 13) ∷ []
unfolding calls_of
twelve-calls = refl

-- one function calls itself, and one symbol outside; a distance in four bytes is checked in 64 bits alone
one-calls : map (λ (x : Field Reloc). x.item) (calls_of W64 1) ≡
    record { target = target.Symbol 0; form = record { base = base.Address; less = less.Place; width = Four; check = Signed }; addend = negsuc 3; hint = Plain }
    ∷ record { target = target.Symbol 1; form = record { base = base.Address; less = less.Place; width = Four; check = Signed }; addend = negsuc 3; hint = Plain }
    ∷ []
unfolding calls_of
one-calls = refl

one-format : (made_object 1 W64).format ≡ Elf64
unfolding made_object
one-format = refl

-- how many calls there are
hundred-calls : length (calls_of W32 100) ≡ 200
unfolding calls_of
hundred-calls = refl
