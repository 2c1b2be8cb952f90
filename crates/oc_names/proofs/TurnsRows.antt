-- What two lists of edits make of small objects, in turn and at once.
use Rattle.std.proofs.Common.{◌≡◌, ℕ, List, [], ◌∷◌, Result, Ok, Err, refl}
use Rattle.std.specs.Prelude.{codes}
use Rattle.oc_base.specs.{declared.code.Code.TheVariants.{NameClash, PinnedWeak}, declared.fault.Fault.{Fault}}
use Rattle.oc_base.specs.declared.format.Format.TheVariants.{Coff32, Elf32}
use Rattle.oc_linking.specs.{declared.terms.Value.TheVariants.{Place}, declared.terms.Binding.{Binding}}
use Rattle.oc_linking.specs.declared.terms.Binding.TheVariants.{Local, Global, Weak}
use Rattle.oc_linking.specs.declared.terms.Fallback.TheVariants as fallback
use Rattle.oc_neutral.specs.{declared.symbol.Symbol.{Symbol}, Objects.{Object}}
use Rattle.oc_names.specs.{declared.edit.Edit.{Edit}, declared.edit.Edit.TheVariants.{Alias, MakeLocal, Rename, Underscore, Weaken}, Edited.{edited}}
use Rattle.oc_drop.specs.Steps.{edit_fault, then_by}
use Rattle.oc_drop.proofs.Examples.{symbol}
use Rattle.oc_names.proofs.Examples.{asked, symbols_alone}

abbrev a : List ℕ
a = codes "a"

abbrev b : List ℕ
b = codes "b"

abbrev c : List ℕ
c = codes "c"

-- definitions of a number, and places of Locals and of Weak symbols
abbrev here : Binding
here = Global (Place 0 4)

abbrev hidden : Binding
hidden = Local (Place 0 4)

abbrev weak : Binding
weak = Weak (fallback.Place 0 4)

-- on the way from ELF to COFF, which has another habit of underscores
abbrev of : List Symbol → Object
of symbols = symbols_alone Elf32 symbols

abbrev after : Edit → Object → Result Object Fault
after edit n = edited (asked (edit ∷ [])) Coff32 n

abbrev in_turn : Edit → Edit → List Symbol → Result Object Fault
in_turn first second symbols = then_by (after second) (after first (of symbols))

abbrev at_once : Edit → Edit → List Symbol → Result Object Fault
at_once first second symbols = edited (asked (first ∷ second ∷ [])) Coff32 (of symbols)

-- ... edits that do not touch one another

apart-turn : in_turn (Rename a b) (Weaken c) (symbol a here 1 ∷ symbol c here 2 ∷ []) ≡ Ok (of (symbol b here 1 ∷ symbol c weak 2 ∷ []))
apart-turn = refl

apart-once : at_once (Rename a b) (Weaken c) (symbol a here 1 ∷ symbol c here 2 ∷ []) ≡ Ok (of (symbol b here 1 ∷ symbol c weak 2 ∷ []))
apart-once = refl

-- a name that the first took may be given again
freed-turn : in_turn (Rename a b) (Rename c a) (symbol a here 1 ∷ symbol c here 2 ∷ []) ≡ Ok (of (symbol b here 1 ∷ symbol a here 2 ∷ []))
freed-turn = refl

freed-once : at_once (Rename a b) (Rename c a) (symbol a here 1 ∷ symbol c here 2 ∷ []) ≡ Ok (of (symbol b here 1 ∷ symbol a here 2 ∷ []))
freed-once = refl

-- both may make one symbol Weak and Local
same-turn : in_turn (Weaken a) (MakeLocal a) (symbol a here 1 ∷ []) ≡ Ok (of (symbol a hidden 1 ∷ []))
same-turn = refl

same-once : at_once (Weaken a) (MakeLocal a) (symbol a here 1 ∷ []) ≡ Ok (of (symbol a hidden 1 ∷ []))
same-once = refl

-- ... why each field of CanFollow is asked for

-- a further symbol of the first edits is no match at once
alone-turn : in_turn (Alias a b) (Weaken a) (symbol a here 1 ∷ []) ≡ Ok (of (symbol a weak 1 ∷ symbol b here 1 ∷ []))
alone-turn = refl

alone-once : at_once (Alias a b) (Weaken a) (symbol a here 1 ∷ []) ≡ Ok (of (symbol a weak 1 ∷ symbol b weak 1 ∷ []))
alone-once = refl

-- underscores come last at once
plain-turn : in_turn Underscore (Rename a b) (symbol a here 1 ∷ []) ≡ Ok (of (symbol (codes "_a") here 1 ∷ []))
plain-turn = refl

plain-once : at_once Underscore (Rename a b) (symbol a here 1 ∷ []) ≡ Ok (of (symbol (codes "_b") here 1 ∷ []))
plain-once = refl

-- at once a symbol is renamed once
new-turn : in_turn (Rename a b) (Rename b c) (symbol a here 1 ∷ []) ≡ Ok (of (symbol c here 1 ∷ []))
new-turn = refl

new-once : at_once (Rename a b) (Rename b c) (symbol a here 1 ∷ []) ≡ Ok (of (symbol b here 1 ∷ []))
new-once = refl

-- at once a symbol is found by its old name
old-turn : in_turn (Rename a b) (Weaken a) (symbol a here 1 ∷ []) ≡ Ok (of (symbol b here 1 ∷ []))
old-turn = refl

old-once : at_once (Rename a b) (Weaken a) (symbol a here 1 ∷ []) ≡ Ok (of (symbol b weak 1 ∷ []))
old-once = refl

-- in turn a fallback is settled before the second edits
standing-turn : in_turn (MakeLocal b) (MakeLocal a) (symbol a (Weak (fallback.Name 1)) 1 ∷ symbol b here 2 ∷ []) ≡ Ok (of (symbol a hidden 1 ∷ symbol b hidden 2 ∷ []))
standing-turn = refl

standing-once : at_once (MakeLocal b) (MakeLocal a) (symbol a (Weak (fallback.Name 1)) 1 ∷ symbol b here 2 ∷ []) ≡ Ok (of (symbol a weak 1 ∷ symbol b hidden 2 ∷ []))
standing-once = refl

-- ... where the first edits are refused alone

-- a fallback that would be Weak is made Local
strong-first : after (Weaken b) (of (symbol a (Weak (fallback.Name 1)) 1 ∷ symbol b here 2 ∷ [])) ≡ Err (edit_fault PinnedWeak 1 0)
strong-first = refl

strong-once : at_once (Weaken b) (MakeLocal b) (symbol a (Weak (fallback.Name 1)) 1 ∷ symbol b here 2 ∷ []) ≡ Ok (of (symbol a weak 1 ∷ symbol b hidden 2 ∷ []))
strong-once = refl

-- a name that would stand twice is taken away, which CanFollow does not let the second edits do
clash-first : after (Rename a b) (of (symbol a here 1 ∷ symbol b here 2 ∷ [])) ≡ Err (edit_fault NameClash 2 1)
clash-first = refl

clash-once : at_once (Rename a b) (Rename b c) (symbol a here 1 ∷ symbol b here 2 ∷ []) ≡ Ok (of (symbol b here 1 ∷ symbol c here 2 ∷ []))
clash-once = refl
