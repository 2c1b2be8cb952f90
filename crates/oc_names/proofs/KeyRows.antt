-- The keys of groups under new names, computed on small objects.
use Rattle.std.proofs.Common.{◌≡◌, ℕ, List, [], ◌∷◌, refl}
use Rattle.std.specs.Prelude.{codes, Some, Ok, Err}
use Rattle.oc_base.specs.{declared.code.Code.TheVariants.{NameClash}, declared.format.Format.TheVariants.{Elf32, Coff32}}
use Rattle.oc_linking.specs.{declared.terms.Kind.TheVariants.{Code}, declared.terms.Value.TheVariants.{Place}}
use Rattle.oc_linking.specs.declared.terms.Binding.TheVariants.{Local, Global, Undefined}
use Rattle.oc_neutral.specs.{declared.symbol.Symbol.{Symbol}, Objects.{Object}}
use Rattle.oc_names.specs.{declared.edit.Edit.TheVariants.{Rename, Prefix, Alias, Underscore}, Naming.{named_object}}
use Rattle.oc_drop.specs.Steps.{edit_fault}
use Rattle.oc_drop.proofs.Examples.{symbol, section, object, group}

-- two groups, each with one section
abbrev grouped : List ℕ → List ℕ → List Symbol → Object
grouped x y symbols = object Elf32 (group x ∷ group y ∷ []) (section Code [] 4 (Some 0) ∷ section Code [] 7 (Some 1) ∷ []) symbols ([] ∷ [] ∷ [])

-- the worked case: a key follows the symbol that has its name; a key that names none stays, as does one whose symbol became Local
key-renamed : named_object (Rename (codes "t") (codes "u") ∷ Prefix (codes "k") (codes "l") ∷ []) Elf32
    (grouped (codes "t") (codes "k") (symbol (codes "t") (Global (Place 0 0)) 1 ∷ symbol (codes "k") (Local (Place 1 0)) 2 ∷ []))
    ≡ Ok (grouped (codes "u") (codes "k") (symbol (codes "u") (Global (Place 0 0)) 1 ∷ symbol (codes "k") (Local (Place 1 0)) 2 ∷ []))
key-renamed = refl

-- it follows underscores too, and no alias
key-underscored : named_object (Underscore ∷ Alias (codes "t") (codes "s") ∷ []) Coff32 (grouped (codes "t") (codes "k") (symbol (codes "t") (Global (Place 0 0)) 1 ∷ []))
    ≡ Ok (grouped (codes "_t") (codes "k") (symbol (codes "_t") (Global (Place 0 0)) 1 ∷ symbol (codes "s") (Global (Place 0 0)) 1 ∷ []))
key-underscored = refl

-- a key that becomes that of an earlier group: the numbers of the first members
key-clash : named_object (Rename (codes "t") (codes "k") ∷ []) Elf32 (grouped (codes "k") (codes "t") (symbol (codes "t") (Global (Place 0 0)) 1 ∷ [])) ≡ Err (edit_fault NameClash 7 4)
key-clash = refl

-- names are checked first
key-after_names : named_object (Rename (codes "t") (codes "k") ∷ Rename (codes "w") (codes "v") ∷ []) Elf32
    (grouped (codes "k") (codes "t") (symbol (codes "t") (Global (Place 0 0)) 1 ∷ symbol (codes "v") Undefined 2 ∷ symbol (codes "w") Undefined 3 ∷ [])) ≡ Err (edit_fault NameClash 3 2)
key-after_names = refl
