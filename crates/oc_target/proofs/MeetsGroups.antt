-- Each group of an object has a member.
use Rattle.std.proofs.Common.{◌≡◌, ℕ, zero, suc, ◌+◌, ◌<◌, ◌≤◌, Bool, true, false, cond, List, [], ◌∷◌, length, Option, Some, None, inl, inr, refl, sym, ◌∙◌, ap, arith}
use Rattle.std.specs.{Prelude.{slice_get, nat_eq}, Option.{option_map}}
use Rattle.std.proofs.lemmas.{Bool.{eqb-true, cases_lt}, Option.{none-some}}
use Rattle.oc_neutral.specs.{KindRules.{has_nul}, declared.group.Group.{Group}, declared.section.Section.{Section}, Invariants.{AreBegun, groups_of, IsObject}}
use Rattle.oc_neutral.specs.Objects.{Object}
use Rattle.oc_target.specs.Meets.{IsUncut}
use Rattle.oc_target.proofs.MeetsConditions.{below_length}

-- a member of a group
pub record IsMemberOf (n : Object) (g : ℕ) : Type 0 where
  pub position : ℕ
  pub section : Section
  pub there : slice_get n.sections position ≡ Some section
  pub member : section.group ≡ Some g

-- a group that is not begun yet is begun by one of the rest
begins : (count begun g : ℕ) (groups : List (Option ℕ)) → AreBegun count begun groups → begun ≤ g → g < count → (k : ℕ) × (slice_get groups k ≡ Some (Some g))
begins count begun g [] are low high = absurd (omega (arith, are, low, high))
begins count begun g (None ∷ groups) are low high = let r = begins count begun g groups are.1 low high in (suc r.0, r.1)
begins count begun g (Some h ∷ groups) are low high = by (nat_eq h begun) refl are.1 (λ b a l. begins count b g groups a l high)
  where
    by : (b : Bool) → nat_eq h begun ≡ b → AreBegun count (cond b (begun + 1) begun) groups → ((x : ℕ) → AreBegun count x groups → x ≤ g → (k : ℕ) × (slice_get groups k ≡ Some (Some g)))
        → (k : ℕ) × (slice_get (Some h ∷ groups) k ≡ Some (Some g))
    by true e are rest = elim (cases_lt begun g) [
      | inl l ↦ (let r = rest (begun + 1) are (omega (arith, l)) in (suc r.0, r.1))
      | inr l ↦ (0, ap (λ x. Some (Some x)) (let same : h ≡ begun = eqb-true h begun e in omega (arith, same, l, low)))
    ]
    by false e are rest = let r = rest begun are low in (suc r.0, r.1)

-- the section with that group
of_groups : (sections : List Section) (g k : ℕ) → slice_get (groups_of sections) k ≡ Some (Some g) → (s : Section) × (slice_get sections k ≡ Some s) × (s.group ≡ Some g)
of_groups [] g k h = absurd (none-some (Some g) h)
of_groups (s ∷ sections) g zero h = (s, refl, some_back s.group h)
  where
    some_back : (o : Option ℕ) → Some o ≡ Some (Some g) → o ≡ Some g
    some_back o e = cc
of_groups (s ∷ sections) g (suc k) h = of_groups sections g k h

pub group_member : (n : Object) → IsObject n → (g : ℕ) → g < length n.groups → IsMemberOf n g
group_member n is g low =
    let b = begins (length n.groups) 0 g (groups_of n.sections) is.complete.begun (omega arith) low in
    let s = of_groups n.sections g b.0 b.1 in
    record { position = b.0; section = s.0; there = s.1; member = s.2 }

-- so where no section is in a group, there is none
pub no_groups : (n : Object) → IsObject n → ((k : ℕ) (s : Section) → slice_get n.sections k ≡ Some s → s.group ≡ None) → n.groups ≡ []
no_groups n is alone = by n.groups (λ low. group_member n is 0 low)
  where
    by : (groups : List Group) → (0 < length groups → IsMemberOf n 0) → groups ≡ []
    by [] member = refl
    by (g ∷ groups) member = absurd (let m = member (omega arith) in none-some 0 (sym (alone m.position m.section m.there) ∙ m.member))

-- where no section's group has a key with a NUL, no key has one
pub keys_uncut : (n : Object) → IsObject n → ((k : ℕ) (s : Section) → slice_get n.sections k ≡ Some s → IsUncut n s)
    → (g : ℕ) (x : Group) → slice_get n.groups g ≡ Some x → has_nul x.key ≡ false
keys_uncut n is uncut g x here =
    let m = group_member n is g (below_length n.groups g x here) in
    (uncut m.position m.section m.there).key g x.key m.member (ap (option_map (λ (y : Group). y.key)) here)
