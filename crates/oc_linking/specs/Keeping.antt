-- Which sections are kept (our profile): positions among the kept ones, and among all that are carried.
use Rattle.std.specs.Prelude.{ℕ, zero, suc, Bool, true, false, List, [], ◌∷◌, map}
use Rattle.oc_linking.specs.{declared.terms.Kind.{Kind}, declared.terms.Kind.TheVariants.{Code, ReadOnly, Data, Zero, Init, Fini, Debug, Exception, Note}}
use Rattle.oc_linking.specs.{declared.terms.Keep.{Keep}, Parts.{Section}}

-- whether a kind is kept
abbrev pub keeps : Keep → Kind → Bool
keeps keep Debug = keep.debug
keeps keep Exception = keep.exceptions
keeps keep Note = keep.notes
keeps keep Code = true
keeps keep ReadOnly = true
keeps keep Data = true
keeps keep Zero = true
keeps keep Init = true
keeps keep Fini = true

-- every kind is kept
abbrev pub all : Keep
all = record { debug = true; exceptions = true; notes = true }

-- of each carried section, whether it is kept
abbrev pub kept_flags : Keep → List Section → List Bool
kept_flags keep sections = map (λ s. keeps keep s.kind) sections

-- those of the list whose flag is set
abbrev pub kept_of : {X : Type 0} → List Bool → List X → List X
kept_of flags [] = []
kept_of [] (x ∷ xs) = x ∷ xs
kept_of (true ∷ flags) (x ∷ xs) = x ∷ kept_of flags xs
kept_of (false ∷ flags) (x ∷ xs) = kept_of flags xs

-- the position among the carried sections of kept section j
abbrev pub carried_of : List Bool → ℕ → ℕ
carried_of [] j = j
carried_of (true ∷ flags) zero = 0
carried_of (true ∷ flags) (suc j) = suc (carried_of flags j)
carried_of (false ∷ flags) j = suc (carried_of flags j)
