-- The symbols of an object as a file has them, and what holds of their numbers and of the names of their fallbacks.
use Rattle.std.proofs.Common.{◌≢◌, ℕ, ◌<◌, Bool, List, [], ◌∷◌, map}
use Rattle.std.specs.List.{AllByRecursion}
use Rattle.oc_linking.specs.declared.terms.Fallback.TheVariants as fallback
use Rattle.oc_linking.specs.{declared.terms.Binding.{Binding}, declared.terms.Binding.TheVariants.{Local, Global, Undefined, Common, Weak}}
use Rattle.oc_linking.specs.Raising.{raised_binding}
use Rattle.oc_neutral.specs.{declared.symbol.Symbol.{Symbol}, Faces.{shown_binding}, Without.{with_binding}}

-- a binding, as the file has it: sections by their positions among the carried ones, a fallback by its number
abbrev pub filed_binding : List Bool → List Symbol → Binding → Binding
filed_binding flags symbols b = raised_binding flags (shown_binding symbols b)

-- a symbol
abbrev pub filed : List Bool → List Symbol → Symbol → Symbol
filed flags symbols s = with_binding s (filed_binding flags symbols s.binding)

-- all of them
abbrev pub all_filed : List Bool → List Symbol → List Symbol
all_filed flags symbols = map (filed flags symbols) symbols

-- the numbers of symbols
abbrev pub numbers_of : List Symbol → List ℕ
numbers_of symbols = map (λ (s : Symbol). s.number) symbols

-- a fallback Name is that of a symbol that is there
abbrev pub Names : ℕ → Binding → Type 0
Names n (Weak (fallback.Name k)) = k < n
Names n (Weak (fallback.Place k offset)) = Unit {0}
Names n (Weak fallback.Zero) = Unit {0}
Names n (Local v) = Unit {0}
Names n (Global v) = Unit {0}
Names n Undefined = Unit {0}
Names n (Common size align) = Unit {0}

-- so each fallback of the symbols
abbrev pub AllNamed : ℕ → List Symbol → Type 0
AllNamed n symbols = AllByRecursion (λ (s : Symbol). Names n s.binding) symbols

-- no number stands twice
abbrev pub AreSingle : List ℕ → Type 0
AreSingle [] = Unit {0}
AreSingle (n ∷ ns) = AllByRecursion (λ m. n ≢ m) ns × AreSingle ns
