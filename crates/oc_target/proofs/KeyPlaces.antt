-- Where a symbol is the key symbol of a group, and what it is called there.
use Rattle.std.proofs.Common.{◌≡◌, refl, ℕ, suc, ◌&&◌, ◌||◌, Bool, true, false, cond, List, [], ◌∷◌, map, Some, ◌∙◌, ap, sym, arith}
use Rattle.std.specs.{Prelude.{nat_eq, slice_get, filter, bytes_eq}, List.{list_any}, Option.{option_map_or, option_and_then}}
use Rattle.std.proofs.lemmas.{Bool.{and_parts, eqb-true, false_from_ne_true}, Option.{same_Some}, Slice.Eq.{bytes_eq-Decides}}
use Rattle.oc_linking.specs.{declared.terms.Binding.{Binding}, Parts.{is_local}}
use Rattle.oc_linking.proofs.Testing.{either_way}
use Rattle.oc_neutral.specs.{declared.symbol.Symbol.{Symbol}, Objects.{Object}, Faces.{key_of}, Invariants.{AreDistinct}}
use Rattle.oc_neutral.specs.{KeySymbols.{global_place, group_at, is_key_name, is_key_at}, Normal.{Place}}
use Rattle.oc_target.proofs.MeetsParts.{some_passes}

-- the name is the key of the group of section k
abbrev pub is_key_in : Object → ℕ → List ℕ → Bool
is_key_in n k name = option_map_or (is_key_name n name) (group_at n k) false

-- a test at a number that is another one's
at_same : (j k : ℕ) (test : ℕ → Bool) → (nat_eq j k && test k) ≡ (nat_eq k j && test j)
at_same j k test = by (nat_eq j k) refl
  where
    by : (b : Bool) → nat_eq j k ≡ b → (b && test k) ≡ (nat_eq k j && test j)
    by true e = ap test (sym (eqb-true j k e)) ∙ ap (λ b. b && test j) (sym (sym (either_way j k) ∙ e))
    by false e = ap (λ b. b && test j) (sym (sym (either_way j k) ∙ e))

-- at another section than its own a symbol is no key symbol
pub key_at_place : (n : Object) (k : ℕ) (s : Symbol) (place : Place) → global_place s.binding ≡ Some place → is_key_at n k s ≡ (nat_eq k place.0 && is_key_in n place.0 s.name)
key_at_place n k s place here =
    ap (λ o. option_map_or (λ (p : Place). nat_eq p.0 k) o false && is_key_in n k s.name) here ∙ at_same place.0 k (λ j. is_key_in n j s.name)

-- what is placed is no Local
placed_nonlocal : (b : Binding) (place : Place) → global_place b ≡ Some place → is_local b ≡ false
placed_nonlocal b place e = grind arith

-- a key symbol at section k is not Local, and is called as the key of the section's group
record KeyFound (n : Object) (k : ℕ) (s : Symbol) : Type 0 where
  pub nonlocal : is_local s.binding ≡ false
  pub key : option_and_then (key_of n.groups) (group_at n k) ≡ Some s.name

key_found : (n : Object) (k : ℕ) (s : Symbol) → is_key_at n k s ≡ true → KeyFound n k s
key_found n k s is =
    let parts = and_parts _ _ is in
    let place = some_passes (λ (p : Place). nat_eq p.0 k) (global_place s.binding) parts.0 in
    let group = some_passes (is_key_name n s.name) (group_at n k) parts.1 in
    let key = some_passes (bytes_eq s.name) (key_of n.groups group.0) group.2 in
    let named : s.name ≡ key.0 = (bytes_eq-Decides s.name key.0).0 key.2 in
    record {
      nonlocal = placed_nonlocal s.binding place.0 place.1;
      key = ap (option_and_then (key_of n.groups)) group.1 ∙ key.1 ∙ ap Some (sym named);
    }

-- nothing passes
none_pass : (p : Symbol → Bool) (xs : List Symbol) → ((j : ℕ) (y : Symbol) → slice_get xs j ≡ Some y → p y ≡ false) → filter p xs ≡ []
none_pass p [] fails = refl
none_pass p (x ∷ xs) fails = ap (λ b. cond b (x ∷ filter p xs) (filter p xs)) (fails 0 x refl) ∙ none_pass p xs (λ j y h. fails (suc j) y h)

-- the key of the group of section k, as a list
abbrev pub keys_at : Object → ℕ → List (List ℕ)
keys_at n k = option_map_or (λ key. key ∷ []) (option_and_then (key_of n.groups) (group_at n k)) []

-- of symbols with names that differ one at most is the key symbol at section k
pub key_names : (n : Object) (k : ℕ) (xs : List Symbol) → AreDistinct xs → map (λ (s : Symbol). s.name) (filter (is_key_at n k) xs) ≡ cond (list_any (is_key_at n k) xs) (keys_at n k) []
key_names n k [] distinct = refl
key_names n k (x ∷ xs) distinct = by (is_key_at n k x) refl (key_names n k xs (λ i j s t l h g. distinct (suc i) (suc j) s t (omega (arith, l)) h g))
  where
    p : Symbol → Bool
    p = is_key_at n k

    no_more : p x ≡ true → (j : ℕ) (y : Symbol) → slice_get xs j ≡ Some y → p y ≡ true → ⊥
    no_more e j y h f =
        let a = key_found n k x e in
        let b = key_found n k y f in
        distinct 0 (suc j) x y (omega arith) refl h a.nonlocal b.nonlocal (same_Some x.name y.name (sym a.key ∙ b.key))

    by : (b : Bool) → p x ≡ b → map (λ (s : Symbol). s.name) (filter p xs) ≡ cond (list_any p xs) (keys_at n k) []
        → map (λ (s : Symbol). s.name) (cond b (x ∷ filter p xs) (filter p xs)) ≡ cond (b || list_any p xs) (keys_at n k) []
    by true e rest =
        ap (λ ys. x.name ∷ map (λ (s : Symbol). s.name) ys) (none_pass p xs (λ j y h. false_from_ne_true (p y) (no_more e j y h)))
        ∙ sym (ap (λ o. option_map_or (λ key. key ∷ []) o []) (key_found n k x e).key)
    by false e rest = rest
