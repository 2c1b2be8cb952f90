-- What is mapped.
use Rattle.std.proofs.Common.{◌≡◌, Option, Some, refl, ℕ, zero, suc, ◌+◌, List, [], ◌∷◌, length, map, sym, ◌∙◌, ap, arith}
use Rattle.std.specs.{Option.{option_map}, Prelude.{slice_get}, List.{AllByRecursion}}
use Rattle.std.proofs.lemmas.{List.{length-map}, List.Sums.{sum_by-cons}}
use Rattle.oc_chains.specs.{declared.field.Field.{Field}, Lists.{list_of, held_in}}
use Rattle.oc_neutral.specs.declared.reloc.Reloc.{Reloc}

-- what a mapped option comes from
pub from_mapped : {X Y : Type 0} (f : X → Y) (o : Option X) (y : Y) → option_map f o ≡ Some y → (x : X) × (o ≡ Some x) × (f x ≡ y)
from_mapped f o y here = grind arith

-- what holds at each position holds of each element
pub all_from : {X : Type 0} (P : X → Type 0) (xs : List X) → ((k : ℕ) (x : X) → slice_get xs k ≡ Some x → P x) → AllByRecursion P xs
all_from P [] each = tt
all_from P (x ∷ xs) each = (each 0 x refl, all_from P xs (λ k y here. each (suc k) y here))

-- the lists of fields, mapped
pub list_map : (f : Field Reloc → Field Reloc) (lists : List (List (Field Reloc))) (s : ℕ) → list_of (map (map f) lists) s ≡ map f (list_of lists s)
list_map f [] s = refl
list_map f (xs ∷ lists) zero = refl
list_map f (xs ∷ lists) (suc s) = list_map f lists s

pub held_map : (f : Field Reloc → Field Reloc) (lists : List (List (Field Reloc))) → held_in (map (map f) lists) ≡ held_in lists
held_map f [] = refl
held_map f (xs ∷ lists) =
    sum_by-cons length (map f xs) (map (map f) lists)
    ∙ ap (λ k. k + held_in (map (map f) lists)) (length-map xs f) ∙ ap (λ k. length xs + k) (held_map f lists)
    ∙ sym (sum_by-cons length xs lists)
