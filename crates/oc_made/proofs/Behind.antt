-- A field behind all others of a section.
use Rattle.std.proofs.Common.{◌≡◌, ℕ, ◌+◌, ◌^◌, ◌≤◌, false, cond, nat_lt, List, [], ◌∷◌, ◌++◌, length, set, refl, ◌∙◌, ap, arith}
use Rattle.std.specs.List.{list_any}
use Rattle.std.proofs.lemmas.Bool.Decides.{nat_tests}
use Rattle.oc_chains.specs.{declared.field.Field.{Field}, Fields.{FollowFrom, end_of, field, meets, placed}, Lists.{Lists}}
use Rattle.oc_neutral.specs.declared.reloc.Reloc.{Reloc}

-- it begins behind the place from which all follow
behind_from : (p : ℕ) (xs : List (Field Reloc)) (f : Field Reloc) → FollowFrom p (xs ++ f ∷ []) → p ≤ f.at
behind_from p [] f follow = follow.0
behind_from p (x ∷ xs) f follow = let l = behind_from (end_of x) xs f follow.2 in let m = follow.0 in omega (arith, l, m)

-- it ends in time
pub behind_ends : (p : ℕ) (xs : List (Field Reloc)) (f : Field Reloc) → FollowFrom p (xs ++ f ∷ []) → f.at + f.width ≤ 2 ^ 31
behind_ends p [] f follow = follow.2
behind_ends p (x ∷ xs) f follow = behind_ends (end_of x) xs f follow.2

-- it meets none
pub behind_free : (p : ℕ) (xs : List (Field Reloc)) (f : Field Reloc) → FollowFrom p (xs ++ f ∷ []) → list_any (meets f.at f.width) xs ≡ false
behind_free p [] f follow = refl
behind_free p (x ∷ xs) f follow =
    let l : end_of x ≤ f.at = behind_from (end_of x) xs f follow.2 in
    let none : meets f.at f.width x ≡ false = grind (arith, nat_tests) in
    rw none (behind_free (end_of x) xs f follow.2)

-- it is placed behind all
pub behind_placed : (p : ℕ) (xs : List (Field Reloc)) (f : Field Reloc) → FollowFrom p (xs ++ f ∷ []) → placed (field f.at f.width f.item) xs ≡ xs ++ f ∷ []
behind_placed p [] f follow = refl
behind_placed p (x ∷ xs) f follow =
    let l : end_of x ≤ f.at = behind_from (end_of x) xs f follow.2 in
    let none : nat_lt f.at x.at ≡ false = grind (arith, nat_tests) in
    ap (λ b. cond b (field f.at f.width f.item ∷ x ∷ xs) (x ∷ placed (field f.at f.width f.item) xs)) none
    ∙ ap (λ ys. x ∷ ys) (behind_placed (end_of x) xs f follow.2)

-- the one list, where it is another
pub set_alone : (lists : Lists Reloc) (ys : List (Field Reloc)) → length lists ≡ 1 → set lists 0 ys ≡ ys ∷ []
set_alone [] ys e = absurd (omega (arith, e))
set_alone (x ∷ []) ys e = refl
set_alone (x ∷ y ∷ lists) ys e = absurd (omega (arith, e))
