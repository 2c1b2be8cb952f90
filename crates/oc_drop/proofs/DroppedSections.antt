-- The sections that are left look as they did, each in its group.
use Rattle.std.proofs.Common.{◌≡◌, ℕ, zero, suc, ◌+◌, ◌<◌, Bool, true, false, cond, eqb, List, [], ◌∷◌, ◌++◌, length, map, Option, Some, None, refl, sym, ◌∙◌, ap, subst, arith}
use Rattle.std.specs.{Prelude.{slice_get, nat_eq}, List.{AllByRecursion, filter_map, cons_option, position_from}, Option.{option_map, option_and_then, is_some}}
use Rattle.std.proofs.lemmas.{Bool.{eq-eqb}, Option.{none-some, same_Some, slice_get_within}}
use Rattle.oc_linking.specs.{declared.terms.Keep.{Keep}, Keeping.{keeps, kept_flags, kept_of}}
use Rattle.oc_linking.specs.Parts as parts
use Rattle.oc_neutral.specs.{declared.group.Group.{Group}, declared.section.Section.{Section}, Faces.{key_of, shown_section, frame_of}}
use Rattle.oc_neutral.specs.{Invariants.{IsMember, groups_of}, Without.{place_in, begun_more, begun_by, groups_left, regrouped}}
use Rattle.oc_neutral.proofs.{Positions.{there_at}, Regrouping.{left_low, picked, picked_from, picked_long, place_says}}
use Rattle.oc_drop.specs.Dropping.{sections_stay}

-- what two functions make of a list, where they agree on each item
pub map_same : {X Y : Type 0} (f g : X → Y) (xs : List X) → ((k : ℕ) (x : X) → slice_get xs k ≡ Some x → f x ≡ g x) → map f xs ≡ map g xs
map_same f g [] each = refl
map_same f g (x ∷ xs) each = ap (λ y. y ∷ map f xs) (each 0 x refl) ∙ ap (λ ys. g x ∷ ys) (map_same f g xs (λ k y here. each (suc k) y here))

-- two functions after one another
pub map_twice : {X Y Z : Type 0} (f : Y → Z) (g : X → Y) (xs : List X) → map f (map g xs) ≡ map (λ x. f (g x)) xs
map_twice f g [] = refl
map_twice f g (x ∷ xs) = ap (λ ys. f (g x) ∷ ys) (map_twice f g xs)

-- those that stay of images are the images of those that stay
pub kept_map : {X Y : Type 0} (f : X → Y) (flags : List Bool) (xs : List X) → map f (kept_of flags xs) ≡ kept_of flags (map f xs)
kept_map f flags [] = refl
kept_map f [] (x ∷ xs) = refl
kept_map f (true ∷ flags) (x ∷ xs) = ap (λ ys. f x ∷ ys) (kept_map f flags xs)
kept_map f (false ∷ flags) (x ∷ xs) = kept_map f flags xs

-- what stands in a list still does with more after it
pub front_at : {X : Type 0} (xs ys : List X) (k : ℕ) (x : X) → slice_get xs k ≡ Some x → slice_get (xs ++ ys) k ≡ Some x
front_at [] ys k x here = absurd (none-some x here)
front_at (y ∷ xs) ys zero x here = here
front_at (y ∷ xs) ys (suc k) x here = front_at xs ys k x here

-- ... the places of groups

-- one that is there has a place
place_found : (g i : ℕ) (xs : List ℕ) (k : ℕ) → slice_get xs k ≡ Some g → (p : ℕ) × (position_from (nat_eq g) i xs ≡ Some p)
place_found g i [] k here = absurd (none-some g here)
place_found g i (x ∷ xs) zero here = (i, ap (λ b. cond b (Some i) (position_from (nat_eq g) (i + 1) xs)) (eq-eqb g x (sym (same_Some x g here))))
place_found g i (x ∷ xs) (suc k) here =
    let rest = place_found g (i + 1) xs k here in
    elim (eqb g x) as (λ b. (p : ℕ) × (cond b (Some i) (position_from (nat_eq g) (i + 1) xs) ≡ Some p)) [ true ↦ (i, refl) | false ↦ rest ]

at_end : (xs : List ℕ) (g : ℕ) → slice_get (xs ++ g ∷ []) (length xs) ≡ Some g
at_end [] g = refl
at_end (x ∷ xs) g = at_end xs g

-- a group is there when it is begun, and stays
more_there : (begun : List ℕ) (m g : ℕ) → (j : ℕ) × (slice_get begun j ≡ Some g) → (j : ℕ) × (slice_get (begun_more begun m) j ≡ Some g)
more_there begun m g there = by (is_some (place_in begun m))
  where
    by : (b : Bool) → (j : ℕ) × (slice_get (cond b begun (begun ++ m ∷ [])) j ≡ Some g)
    by true = there
    by false = (there.0, front_at begun (m ∷ []) there.0 g there.1)

begun_there : (begun : List ℕ) (g : ℕ) → (j : ℕ) × (slice_get (begun_more begun g) j ≡ Some g)
begun_there begun g = by (place_in begun g) refl
  where
    by : (o : Option ℕ) → place_in begun g ≡ o → (j : ℕ) × (slice_get (cond (is_some o) begun (begun ++ g ∷ [])) j ≡ Some g)
    by None e = (length begun, at_end begun g)
    by (Some p) e = let m = place_says g 0 begun p e in (m.0, m.2)

all_there : (members begun : List ℕ) (g : ℕ) → (j : ℕ) × (slice_get begun j ≡ Some g) → (j : ℕ) × (slice_get (begun_by begun members) j ≡ Some g)
all_there [] begun g there = there
all_there (m ∷ members) begun g there = all_there members (begun_more begun m) g (more_there begun m g there)

-- the group of each section is left
member_there : (sections : List Section) (begun : List ℕ) (k : ℕ) (s : Section) (g : ℕ) → slice_get sections k ≡ Some s → s.group ≡ Some g
    → (j : ℕ) × (slice_get (begun_by begun (filter_map (λ (s : Section). s.group) sections)) j ≡ Some g)
member_there [] begun k s g here own = absurd (none-some s here)
member_there (x ∷ sections) begun zero s g here own =
    let group : x.group ≡ Some g = ap (λ (y : Section). y.group) (same_Some x s here) ∙ own in
    subst (λ o. (j : ℕ) × (slice_get (begun_by begun (cons_option o (filter_map (λ (s : Section). s.group) sections))) j ≡ Some g)) (sym group)
    (all_there (filter_map (λ (s : Section). s.group) sections) (begun_more begun g) g (begun_there begun g))
member_there (x ∷ sections) begun (suc k) s g here own = by x.group (λ begun. member_there sections begun k s g here own)
  where
    by : (o : Option ℕ) → ((begun : List ℕ) → (j : ℕ) × (slice_get (begun_by begun (filter_map (λ (s : Section). s.group) sections)) j ≡ Some g)) → (j : ℕ) × (slice_get (begun_by begun (cons_option o (filter_map (λ (s : Section). s.group) sections))) j ≡ Some g)
    by None rest = rest begun
    by (Some h) rest = rest (begun_more begun h)

-- a group that is left is the one that it was
picked_at : (groups : List Group) (left : List ℕ) (j g : ℕ) → AllByRecursion (λ h. h < length groups) left → slice_get left j ≡ Some g → slice_get (picked groups left) j ≡ slice_get groups g
picked_at groups left j g low here =
    let x = there_at (picked groups left) j (let l = slice_get_within left j g here in let e = picked_long groups left low in omega (arith, l, e)) in
    let from = picked_from groups left low j x.0 x.1 in
    x.1 ∙ sym from.2 ∙ ap (slice_get groups) (same_Some from.0 g (sym from.1 ∙ here))

-- ... dropping

module _ (groups : List Group) (sections : List Section) (members : AllByRecursion (IsMember (length groups)) (groups_of sections)) where
  abbrev left : List ℕ
  left = groups_left sections

  -- the key of a section that stays
  key-left : (k : ℕ) (s : Section) → slice_get sections k ≡ Some s → option_and_then (key_of (picked groups left)) (option_and_then (place_in left) s.group) ≡ option_and_then (key_of groups) s.group
  key-left k s here = by s.group refl
    where
      by : (o : Option ℕ) → s.group ≡ o → option_and_then (key_of (picked groups left)) (option_and_then (place_in left) o) ≡ option_and_then (key_of groups) o
      by None own = refl
      by (Some g) own =
          let there = member_there sections [] k s g here own in
          let place = place_found g 0 left there.0 there.1 in
          let holds = place_says g 0 left place.0 place.1 in
          let at : slice_get left place.0 ≡ Some g = ap (slice_get left) (let f = holds.1 in omega (arith, f)) ∙ holds.2 in
          ap (option_and_then (key_of (picked groups left))) place.1
          ∙ ap (option_map (λ (x : Group). x.key)) (picked_at groups left place.0 g (left_low (length groups) sections members) at)

  -- the sections that are left look as they did
  pub frames-left : map frame_of (map (shown_section (picked groups left)) (map (regrouped left) sections)) ≡ map frame_of (map (shown_section groups) sections)
  frames-left =
      map_twice frame_of (shown_section (picked groups left)) (map (regrouped left) sections)
      ∙ map_twice (λ s. frame_of (shown_section (picked groups left) s)) (regrouped left) sections
      ∙ map_same (λ s. frame_of (shown_section (picked groups left) (regrouped left s))) (λ s. frame_of (shown_section groups s)) sections (λ k s here. ap (in_group s) (key-left k s here))
      ∙ sym (map_twice frame_of (shown_section groups) sections)
    where
      in_group : Section → Option (List ℕ) → parts.Section
      in_group s group = record { name = s.name; kind = s.kind; align = s.align; size = s.size; contents = []; tag = s.tag; number = s.number; group = group }

-- the same sections are kept, where they look alike
pub stay-shown : (keep : Keep) (groups : List Group) (xs : List Section) → sections_stay keep xs ≡ kept_flags keep (map frame_of (map (shown_section groups) xs))
stay-shown keep groups [] = refl
stay-shown keep groups (x ∷ xs) = ap (λ bs. keeps keep x.kind ∷ bs) (stay-shown keep groups xs)

pub flags-framed : (keep : Keep) (xs : List parts.Section) → kept_flags keep (map frame_of xs) ≡ kept_flags keep xs
flags-framed keep [] = refl
flags-framed keep (x ∷ xs) = ap (λ bs. keeps keep x.kind ∷ bs) (flags-framed keep xs)
