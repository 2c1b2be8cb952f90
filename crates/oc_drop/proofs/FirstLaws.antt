-- What it says that a first fault is not there.
use Rattle.std.proofs.Common.{◌≡◌, ℕ, zero, suc, ◌<◌, List, [], ◌∷◌, length, Option, Some, None, refl, sym, ◌∙◌, ap, arith}
use Rattle.std.specs.{Prelude.{slice_get}, List.{AllByRecursion}, Option.{option_and_then, option_map}}
use Rattle.std.proofs.lemmas.Option.{none-some, slice_get_within}
use Rattle.oc_base.specs.declared.fault.Fault.{Fault}
use Rattle.oc_linking.specs.Numbers.{or_else, first_upto}
use Rattle.oc_linking.proofs.FirstFaultLaws.{first_upto_none}
use Rattle.oc_chains.specs.{declared.field.Field.{Field}, Lists.{list_of}}
use Rattle.oc_neutral.specs.{declared.section.Section.{Section}, declared.reloc.Reloc.{Reloc}, Objects.{Object}}
use Rattle.oc_drop.specs.Steps.{first_in, fault_in, first_field}

-- the first of two is not there, where none of them is
pub neither_first : {X : Type 0} (x y : Option X) → or_else x y ≡ None → x ≡ None
neither_first None y e = refl
neither_first (Some x) y e = absurd (none-some x (sym e))

-- nor is the second
pub neither_second : {X : Type 0} (x y : Option X) → or_else x y ≡ None → y ≡ None
neither_second None y e = e
neither_second (Some x) y e = absurd (none-some x (sym e))

-- where what a function gives is not there, its argument is not
pub map_none : {X Y : Type 0} (f : X → Y) (o : Option X) → option_map f o ≡ None → o ≡ None
map_none f None e = refl
map_none f (Some x) e = absurd (none-some (f x) (sym e))

-- where no item gives anything, each gives nothing
pub none_in : {X Y : Type 0} (of : X → Option Y) (xs : List X) → first_in of xs ≡ None → AllByRecursion (λ x. of x ≡ None) xs
none_in of [] none = tt
none_in of (x ∷ xs) none = (neither_first (of x) (first_in of xs) none, none_in of xs (neither_second (of x) (first_in of xs) none))

-- where no field has a fault, none of a section has
pub none_of_section : (of : ℕ → Section → Field Reloc → Option Fault) (n : Object) → first_field of n ≡ None → (k : ℕ) (s : Section) → slice_get n.sections k ≡ Some s
    → AllByRecursion (λ (x : Field Reloc). of k s x ≡ None) (list_of n.relocs k)
none_of_section of n none k s here =
    none_in (of k s) (list_of n.relocs k)
    (sym (ap (option_and_then (λ (s : Section). first_in (of k s) (list_of n.relocs k))) here) ∙ first_upto_none (fault_in of n) (length n.sections) none k (slice_get_within n.sections k s here))

-- where no item is there, none is the first
pub none_upto : {X : Type 0} (item : ℕ → Option X) (n : ℕ) → ((k : ℕ) → k < n → item k ≡ None) → first_upto item n ≡ None
none_upto item zero each = refl
none_upto item (suc n) each = ap (λ o. or_else o (item n)) (none_upto item n (λ k lt. each k (omega (arith, lt)))) ∙ each n (omega arith)
