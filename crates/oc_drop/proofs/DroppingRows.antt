-- What is dropped, what stays and where, computed on small objects.
use Rattle.std.proofs.Common.{◌≡◌, true, false, Bool, List, [], ◌∷◌, refl}
use Rattle.std.specs.Prelude.{codes, Some, None, Ok, Err, pos}
use Rattle.oc_base.specs.{declared.code.Code.TheVariants.{SymbolInDropped, RelocToDropped}, declared.format.Format.TheVariants.{Elf32}}
use Rattle.oc_linking.specs.{declared.terms.Keep.{Keep}, declared.terms.Kind.TheVariants.{Code, Data, Debug}, declared.terms.Check.TheVariants.{Wrap}}
use Rattle.oc_linking.specs.{declared.terms.Less.{Less}, declared.terms.Value.TheVariants.{Place, Absolute}}
use Rattle.oc_linking.specs.declared.terms.Binding.TheVariants.{Local, Global, Weak}
use Rattle.oc_linking.specs.declared.terms.Base.TheVariants as base
use Rattle.oc_linking.specs.declared.terms.Less.TheVariants as less
use Rattle.oc_linking.specs.declared.terms.Fallback.TheVariants as fallback
use Rattle.oc_chains.specs.declared.field.Field.{Field}
use Rattle.oc_neutral.specs.{declared.symbol.Symbol.{Symbol}, declared.reloc.Target.{Target}, declared.reloc.Reloc.{Reloc}, Objects.{Object}}
use Rattle.oc_neutral.specs.declared.reloc.Target.TheVariants as target
use Rattle.oc_drop.specs.{Steps.{edit_fault}, Dropping.{dropped}}
use Rattle.oc_drop.proofs.Examples.{symbol, section, object, field, group}

-- what is kept of debug, exceptions and notes
abbrev keep : Bool → Bool → Bool → Keep
keep debug exceptions notes = record { debug = debug; exceptions = exceptions; notes = notes }

-- three sections, of which the second is dropped
abbrev of_three : List Symbol → List (Field Reloc) → List (Field Reloc) → List (Field Reloc) → Object
of_three symbols xs ys zs =
    object Elf32 [] (section Code (0 ∷ 0 ∷ 0 ∷ 0 ∷ []) 5 None ∷ section Debug (0 ∷ 0 ∷ 0 ∷ 0 ∷ []) 6 None ∷ section Data (0 ∷ 0 ∷ 0 ∷ 0 ∷ []) 9 None ∷ []) symbols (xs ∷ ys ∷ zs ∷ [])

-- and the two that are left
abbrev of_two : List Symbol → List (Field Reloc) → List (Field Reloc) → Object
of_two symbols xs zs = object Elf32 [] (section Code (0 ∷ 0 ∷ 0 ∷ 0 ∷ []) 5 None ∷ section Data (0 ∷ 0 ∷ 0 ∷ 0 ∷ []) 9 None ∷ []) symbols (xs ∷ zs ∷ [])

-- a field at offset 0
abbrev to : Target → Less → Field Reloc
to t l = field 0 t base.Address l Wrap (pos 0)

-- Locals of the dropped section vanish. What stays has new positions: sections in bindings, targets and what is taken, symbols in fallbacks and targets
left : dropped (keep false true true) (of_three
    (symbol (codes "d") (Local (Place 1 0)) 1 ∷ symbol (codes "a") (Local (Absolute 1)) 2 ∷ symbol (codes "g") (Global (Place 2 4)) 3 ∷ symbol (codes "w") (Weak (fallback.Name 2)) 4
    ∷ symbol (codes "v") (Weak (fallback.Place 2 0)) 5 ∷ [])
    (to (target.Section 2) less.Place ∷ []) (to (target.Section 1) less.Zero ∷ []) (to (target.Symbol 2) (less.Section 0) ∷ []))
    ≡ Ok (of_two (symbol (codes "a") (Local (Absolute 1)) 2 ∷ symbol (codes "g") (Global (Place 1 4)) 3 ∷ symbol (codes "w") (Weak (fallback.Name 1)) 4 ∷ symbol (codes "v") (Weak (fallback.Place 1 0)) 5 ∷ [])
    (to (target.Section 1) less.Place ∷ []) (to (target.Symbol 1) (less.Section 0) ∷ []))
left = refl

-- where all is kept, nothing changes
all_left : dropped (keep true true true) (of_three (symbol (codes "d") (Local (Place 1 0)) 1 ∷ []) [] (to (target.Section 1) less.Zero ∷ []) (to (target.Symbol 0) (less.Section 0) ∷ []))
    ≡ Ok (of_three (symbol (codes "d") (Local (Place 1 0)) 1 ∷ []) [] (to (target.Section 1) less.Zero ∷ []) (to (target.Symbol 0) (less.Section 0) ∷ []))
all_left = refl

-- a Global, or a Weak definition, of a dropped section; the first symbol is told, before all fields
global-dropped : dropped (keep false true true) (of_three (symbol (codes "f") (Weak (fallback.Place 1 0)) 4 ∷ symbol (codes "g") (Global (Place 1 0)) 3 ∷ []) (to (target.Section 1) less.Zero ∷ []) [] [])
    ≡ Err (edit_fault SymbolInDropped 4 0)
global-dropped = refl

-- a Weak with a Name is not there itself, but the Global is
name-dropped : dropped (keep false true true) (of_three (symbol (codes "f") (Weak (fallback.Name 1)) 4 ∷ symbol (codes "g") (Global (Place 1 0)) 3 ∷ []) [] [] []) ≡ Err (edit_fault SymbolInDropped 3 0)
name-dropped = refl

-- a field of a section that stays refers to the dropped one; what a dropped section refers to does not matter
target-dropped : dropped (keep false true true) (of_three [] [] (to (target.Section 1) less.Zero ∷ []) (to (target.Section 1) less.Zero ∷ [])) ≡ Err (edit_fault RelocToDropped 9 0)
target-dropped = refl

less-dropped : dropped (keep false true true) (of_three [] (to (target.Section 0) (less.Section 1) ∷ []) [] (to (target.Section 1) less.Zero ∷ [])) ≡ Err (edit_fault RelocToDropped 5 0)
less-dropped = refl

-- groups are left in the order of their first members that are: a dropped first member can turn two round, and one without members goes
groups-left : dropped (keep false true true)
    (object Elf32 (group (codes "x") ∷ group (codes "y") ∷ group (codes "z") ∷ [])
    (section Debug [] 1 (Some 0) ∷ section Debug [] 2 (Some 1) ∷ section Code [] 3 (Some 2) ∷ section Code [] 4 None ∷ section Data [] 5 (Some 0) ∷ section Data [] 6 (Some 2) ∷ []) []
    ([] ∷ [] ∷ [] ∷ [] ∷ [] ∷ [] ∷ []))
    ≡ Ok (object Elf32 (group (codes "z") ∷ group (codes "x") ∷ [])
    (section Code [] 3 (Some 0) ∷ section Code [] 4 None ∷ section Data [] 5 (Some 1) ∷ section Data [] 6 (Some 0) ∷ []) [] ([] ∷ [] ∷ [] ∷ [] ∷ []))
groups-left = refl
