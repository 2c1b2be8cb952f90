-- The small objects of which tests are made.
use Rattle.std.specs.{Prelude.{◌≡◌, ◌≢◌, ℕ, ◌^◌, ◌<◌, ◌≤◌, Bool, true, List, [], ◌∷◌, length, slice_get, Some, None}, List.{AllByRecursion}}
use Rattle.oc_linking.specs.{declared.terms.Binding.{Binding}, declared.terms.Binding.TheVariants.{Local, Global, Undefined, Common, Weak}}
use Rattle.oc_linking.specs.{declared.terms.Fallback.{Fallback}, declared.terms.Value.{Value}}
use Rattle.oc_linking.specs.declared.terms.Fallback.TheVariants as fallback
use Rattle.oc_linking.specs.declared.terms.Value.TheVariants as value
use Rattle.oc_chains.specs.{declared.field.Field.{Field}, Lists.{list_of}}
use Rattle.oc_neutral.specs.{declared.section.Section.{Section}, declared.symbol.Symbol.{Symbol}, declared.reloc.Reloc.{Reloc}}
use Rattle.oc_neutral.specs.{Invariants.{AreBytes, IsAlign, IsHinted, is_strong}, Objects.{Object}}

-- an offset of section 0, up to 4, or a number of 32 bits
abbrev pub IsNear : Value → Type 0
IsNear (value.Place k offset) = (k ≡ 0) × (offset ≤ 4)
IsNear (value.Absolute x) = x < 2 ^ 32

-- such a place, 0 or, where that is strong, symbol 0
abbrev pub FallsBack : Bool → Fallback → Type 0
FallsBack strong (fallback.Place k offset) = (k ≡ 0) × (offset ≤ 4)
FallsBack strong fallback.Zero = Unit {0}
FallsBack strong (fallback.Name k) = (k ≡ 0) × (strong ≡ true)

-- a binding speaks of these alone
abbrev pub Speaks : Bool → Binding → Type 0
Speaks strong (Local v) = IsNear v
Speaks strong (Global v) = IsNear v
Speaks strong Undefined = Unit {0}
Speaks strong (Common size align) = ⊥
Speaks strong (Weak f) = FallsBack strong f

-- a symbol with a name and such a binding
pub record IsPlain (strong : Bool) (s : Symbol) : Type 0 where
  pub named : s.name ≢ []
  pub name : AreBytes s.name
  pub binding : Speaks strong s.binding
  pub size : s.size ≡ 0
  pub number : s.number < 2 ^ 32

-- a section of at least four bytes, in no group
pub record IsAlone (s : Section) : Type 0 where
  pub align : IsAlign s.align
  pub group : s.group ≡ None
  pub long : 4 ≤ s.size

-- the first symbol can be a fallback
abbrev pub IsStrongFirst : List Symbol → Type 0
IsStrongFirst symbols = (s : Symbol) × (slice_get symbols 0 ≡ Some s) × (is_strong s.binding ≡ true)

-- an object of such a section and such symbols, in which symbol 0 is strong where that is asked for
pub record IsSmall (strong : Bool) (n : Object) : Type 0 where
  pub groups : n.groups ≡ []
  pub section : Section
  pub only : n.sections ≡ section ∷ []
  pub alone : IsAlone section
  pub symbols : AllByRecursion (IsPlain strong) n.symbols
  pub first : strong ≡ true → IsStrongFirst n.symbols

-- without relocations
pub record IsBare (strong : Bool) (n : Object) : Type 0 where
  pub small : IsSmall strong n
  pub bare : n.relocs ≡ [] ∷ []

-- with relocations, and at most one symbol
pub record IsCalling (n : Object) : Type 0 where
  pub strong : Bool
  pub small : IsSmall strong n
  pub few : length n.symbols ≤ 1
  pub hints : (s : ℕ) → AllByRecursion (λ (x : Field Reloc). IsHinted x.item) (list_of n.relocs s)
