-- The first key symbols: what one more symbol adds, and what they say of groups.
use Rattle.std.proofs.Common.{◌≡◌, ℕ, zero, suc, ◌+◌, ◌≤◌, ◌&&◌, ◌||◌, Bool, true, false, cond, List, [], ◌∷◌, length, map, Option, Some, None, refl, sym, ◌∙◌, ap, arith}
use Rattle.std.specs.{Prelude.{slice_get, nat_eq, filter, find, take}, List.{list_any, enumerate_from}}
use Rattle.std.specs.Option.{option_and_then, option_map, option_map_or, option_or, is_some}
use Rattle.std.proofs.lemmas.{Bool.{true≢false, and_parts, eqb-true, eq-eqb}, List.{length-map}, Option.{none-some, same_Some}}
use Rattle.oc_neutral.specs.{declared.symbol.Symbol.{Symbol}, Normal.{Place}, Objects.{Object}, Invariants.{AreDistinct}}
use Rattle.oc_neutral.specs.KeySymbols.{global_place, group_at, is_key_name, is_key_at, lies_in}
use Rattle.oc_target.proofs.KeyPlaces.{is_key_in, key_at_place, key_names, keys_at}
use Rattle.oc_target.specs.Keyed.{key_place}
use Rattle.oc_coff_file.specs.Canonical.{leads, leader_number, kept_with, selection_of}
use Rattle.oc_coff_write.specs.Keys.{first_made, keyed_at, key_position, led_by, leader_position}

-- ... the first of which something is made

pub or_none : {X : Type 0} (o : Option X) → option_or o None ≡ o
or_none None = refl
or_none (Some x) = refl

or_assoc : (a b c : Option ℕ) → option_or (option_or a b) c ≡ option_or a (option_or b c)
or_assoc None b c = refl
or_assoc (Some z) b c = refl

-- with one more item
pub first_more : {X : Type 0} (make : ℕ → X → Option ℕ) (i : ℕ) (xs : List X) (k p : ℕ) (x : X) → slice_get xs k ≡ Some x → p ≡ i + k
    → first_made make i (take (k + 1) xs) ≡ option_or (first_made make i (take k xs)) (make p x)
first_more make i [] k p x here at = absurd (none-some x here)
first_more make i (y ∷ xs) zero p x here at =
    let same : i ≡ p = omega (arith, at) in
    or_none (make i y) ∙ ap (make i) (same_Some y x here) ∙ ap (λ q. make q x) same
first_more make i (y ∷ xs) (suc k) p x here at =
    let more : suc k + 1 ≡ suc (k + 1) = omega arith in
    let next : p ≡ i + 1 + k = omega (arith, at) in
    ap (λ m. first_made make i (take m (y ∷ xs))) more
    ∙ ap (λ o. option_or (make i y) o) (first_more make (i + 1) xs k p x here next)
    ∙ sym (or_assoc (make i y) (first_made make (i + 1) (take k xs)) (make p x))

-- ... the place of a key symbol

same_number : (k : ℕ) → nat_eq k k ≡ true
same_number k = eq-eqb k k refl

-- at its own section, where a symbol has its place, it is a key symbol by its name
own_key : (n : Object) (s : Symbol) (place : Place) → global_place s.binding ≡ Some place → is_key_at n place.0 s ≡ is_key_in n place.0 s.name
own_key n s place here = key_at_place n place.0 s place here ∙ ap (λ b. b && is_key_in n place.0 s.name) (same_number place.0)

-- the section of a place, where the symbol is a key symbol there
abbrev key_among : Object → Symbol → Option Place → Option ℕ
key_among n s o = option_and_then (λ (place : Place). cond (is_key_at n place.0 s) (Some place.0) None) o

-- the section with that place, where group g is its group
abbrev led_among : Object → ℕ → Symbol → Option Place → Option ℕ
led_among n g s o =
    cond (option_map_or (λ (place : Place). option_map_or (nat_eq g) (group_at n place.0) false) o false && is_key_name n s.name g) (option_map (λ (place : Place). place.0) o) None

abbrev pub in_group : Object → ℕ → Option ℕ → Option ℕ
in_group n g o = option_and_then (λ k. cond (option_map_or (nat_eq g) (group_at n k) false) (Some k) None) o

same_group : (n : Object) (s : Symbol) (g h : ℕ) (b : Bool) → nat_eq g h ≡ b → (b && is_key_name n s.name g) ≡ (b && is_key_name n s.name h)
same_group n s g h true e = ap (is_key_name n s.name) (eqb-true g h e)
same_group n s g h false e = refl

either : (k : ℕ) (a b : Bool) → cond (a && b) (Some k) None ≡ option_and_then (λ (j : ℕ). cond a (Some k) None) (cond b (Some k) None)
either k true true = refl
either k true false = refl
either k false true = refl
either k false false = refl

-- by the group of the section
led_in : (n : Object) (g : ℕ) (s : Symbol) (k : ℕ) (o : Option ℕ) → group_at n k ≡ o
    → cond (option_map_or (nat_eq g) o false && is_key_name n s.name g) (Some k) None ≡ in_group n g (cond (option_map_or (is_key_name n s.name) o false) (Some k) None)
led_in n g s k None e = refl
led_in n g s k (Some h) e =
    ap (λ b. cond b (Some k) None) (same_group n s g h (nat_eq g h) refl) ∙ either k (nat_eq g h) (is_key_name n s.name h)
    ∙ ap (λ b. option_and_then (λ (j : ℕ). cond b (Some k) None) (cond (is_key_name n s.name h) (Some k) None)) (sym (ap (λ o. option_map_or (nat_eq g) o false) e))
    ∙ last (is_key_name n s.name h)
  where
    last : (b : Bool) → option_and_then (λ (j : ℕ). cond (option_map_or (nat_eq g) (group_at n k) false) (Some k) None) (cond b (Some k) None) ≡ in_group n g (cond b (Some k) None)
    last true = refl
    last false = refl

-- the symbol leads the group of its section
pub led_is : (n : Object) (g : ℕ) (s : Symbol) → led_by n g s ≡ in_group n g (key_place n s)
led_is n g s = by (global_place s.binding) refl
  where
    by : (o : Option Place) → global_place s.binding ≡ o → led_by n g s ≡ in_group n g (key_place n s)
    by None e = ap (led_among n g s) e ∙ sym (ap (λ o. in_group n g (key_among n s o)) e)
    by (Some place) e =
        ap (led_among n g s) e ∙ led_in n g s place.0 (group_at n place.0) refl
        ∙ sym (ap (λ o. in_group n g (key_among n s o)) e ∙ ap (λ b. in_group n g (cond b (Some place.0) None)) (own_key n s place e))

-- ... what they say of groups

-- a section leads where a key symbol lies in it
pub leads_is : (n : Object) (k : ℕ) → leads n k ≡ is_some (key_position n k)
leads_is n k = by 0 n.symbols
  where
    step : (i : ℕ) (b c : Bool) (o : Option ℕ) → c ≡ is_some o → (b || c) ≡ is_some (option_or (cond b (Some i) None) o)
    step i true c o e = refl
    step i false c o e = e

    by : (i : ℕ) (xs : List Symbol) → list_any (is_key_at n k) xs ≡ is_some (first_made (keyed_at n k) i xs)
    by i [] = refl
    by i (x ∷ xs) = step i (is_key_at n k x) _ _ (by (i + 1) xs)

-- the symbol is the key symbol of group g
abbrev leads_group : Object → ℕ → Symbol → Bool
leads_group n g s = lies_in n g s && is_key_name n s.name g

-- the number of the section of such a symbol
abbrev led_number : Option Symbol → ℕ
led_number o = option_map_or (λ (place : Place). place.0 + 1) (option_and_then (λ (s : Symbol). global_place s.binding) o) 0

-- the number of a leader
pub leader_is : (n : Object) (g : ℕ) → leader_number n g ≡ option_map_or (λ k. k + 1) (leader_position n g) 0
unfolding leader_number
leader_is n g = by 0 n.symbols
  where
    placed : (o : Option Place) (rest : Option ℕ) → option_map_or (λ (place : Place). option_map_or (nat_eq g) (group_at n place.0) false) o false ≡ true
        → option_map_or (λ (place : Place). place.0 + 1) o 0 ≡ option_map_or (λ k. k + 1) (option_or (option_map (λ (place : Place). place.0) o) rest) 0
    placed None rest lies = absurd (true≢false (sym lies))
    placed (Some place) rest lies = refl

    step : (x : Symbol) (b : Bool) → leads_group n g x ≡ b → (found : Option Symbol) (rest : Option ℕ) → led_number found ≡ option_map_or (λ k. k + 1) rest 0
        → led_number (cond b (Some x) found) ≡ option_map_or (λ k. k + 1) (option_or (cond b (option_map (λ (place : Place). place.0) (global_place x.binding)) None) rest) 0
    step x true e found rest h = placed (global_place x.binding) rest (and_parts _ _ e).0
    step x false e found rest h = h

    by : (i : ℕ) (xs : List Symbol) → led_number (find (leads_group n g) xs) ≡ option_map_or (λ k. k + 1) (first_made (λ position s. led_by n g s) i xs) 0
    by i [] = refl
    by i (x ∷ xs) = step x (leads_group n g x) refl _ _ (by (i + 1) xs)

-- with what the section at a position is kept, by the key symbol that lies in it
module _ (n : Object) (k g : ℕ) (key group : Option ℕ) (is : key ≡ key_position n k) (grouped : group ≡ Some g) where
  leading : (b : Bool) → is_some key ≡ b → leads n k ≡ b
  leading b e = leads_is n k ∙ ap is_some (sym is) ∙ e

  pub kept_itself : (j : ℕ) → key ≡ Some j → kept_with n k group ≡ 0
  kept_itself j e = ap (λ o. option_map_or (λ g. cond (leads n k) 0 (leader_number n g)) o 0) grouped ∙ ap (λ b. cond b 0 (leader_number n g)) (leading true (ap is_some e))

  pub kept_with_leader : key ≡ None → kept_with n k group ≡ leader_number n g
  kept_with_leader e = ap (λ o. option_map_or (λ g. cond (leads n k) 0 (leader_number n g)) o 0) grouped ∙ ap (λ b. cond b 0 (leader_number n g)) (leading false (ap is_some e))

  pub selected_itself : (j : ℕ) → key ≡ Some j → selection_of n k group ≡ 2
  selected_itself j e = ap (λ o. option_map_or (λ g. cond (leads n k) 2 5) o 0) grouped ∙ ap (λ b. cond b 2 5) (leading true (ap is_some e))

  pub selected_with_leader : key ≡ None → selection_of n k group ≡ 5
  selected_with_leader e = ap (λ o. option_map_or (λ g. cond (leads n k) 2 5) o 0) grouped ∙ ap (λ b. cond b 2 5) (leading false (ap is_some e))

-- ... at most one symbol is the key symbol in a section

pub one_key : (n : Object) (k : ℕ) → AreDistinct n.symbols → length (filter (is_key_at n k) n.symbols) ≤ 1
one_key n k distinct =
    let named = ap length (key_names n k n.symbols distinct) in
    let many : length (map (λ (s : Symbol). s.name) (filter (is_key_at n k) n.symbols)) ≡ length (filter (is_key_at n k) n.symbols) = length-map (filter (is_key_at n k) n.symbols) (λ (s : Symbol). s.name) in
    let few = at_most (list_any (is_key_at n k) n.symbols) in
    omega (arith, many, named, few)
  where
    listed : (o : Option (List ℕ)) → length (option_map_or (λ key. key ∷ []) o []) ≤ 1
    listed None = omega arith
    listed (Some key) = omega arith

    at_most : (b : Bool) → length (cond b (keys_at n k) []) ≤ 1
    at_most true = listed _
    at_most false = omega arith

-- these are the one at a position from i on, if there is a position
abbrev pub IsOne : {X : Type 0} → List (ℕ × X) → ℕ → List X → Option ℕ → Type 0
IsOne these i xs None = these ≡ []
IsOne {X} these i xs (Some p) = (k : ℕ) × (x : X) × (p ≡ i + k) × (slice_get xs k ≡ Some x) × (these ≡ (p, x) ∷ [])

none_passes : {X : Type 0} (test : X → Bool) (i : ℕ) (xs : List X) → length (filter test xs) ≤ 0 → filter (λ (x : ℕ × X). test x.1) (enumerate_from i xs) ≡ []
none_passes test i [] few = refl
none_passes {X} test i (x ∷ xs) few = by (test x) few (none_passes test (i + 1) xs)
  where
    by : (b : Bool) → length (cond b (x ∷ filter test xs) (filter test xs)) ≤ 0 → (length (filter test xs) ≤ 0 → filter (λ (x : ℕ × X). test x.1) (enumerate_from (i + 1) xs) ≡ [])
        → cond b ((i, x) ∷ filter (λ (x : ℕ × X). test x.1) (enumerate_from (i + 1) xs)) (filter (λ (x : ℕ × X). test x.1) (enumerate_from (i + 1) xs)) ≡ []
    by true few rest = absurd (omega (arith, few))
    by false few rest = rest few

-- where at most one passes, the first is all
pub one_passes : {X : Type 0} (test : X → Bool) (i : ℕ) (xs : List X) → length (filter test xs) ≤ 1
    → IsOne (filter (λ (x : ℕ × X). test x.1) (enumerate_from i xs)) i xs (first_made (λ p x. cond (test x) (Some p) None) i xs)
one_passes test i [] few = refl
one_passes {X} test i (x ∷ xs) few = by (test x) few (one_passes test (i + 1) xs)
  where
    rest : List (ℕ × X)
    rest = filter (λ (x : ℕ × X). test x.1) (enumerate_from (i + 1) xs)

    later : (o : Option ℕ) → IsOne rest (i + 1) xs o → IsOne rest i (x ∷ xs) o
    later None e = e
    later (Some p) (k, y, at, here, is) = (suc k, y, omega (arith, at), here, is)

    by : (b : Bool) → length (cond b (x ∷ filter test xs) (filter test xs)) ≤ 1
        → (length (filter test xs) ≤ 1 → IsOne rest (i + 1) xs (first_made (λ p x. cond (test x) (Some p) None) (i + 1) xs))
        → IsOne (cond b ((i, x) ∷ rest) rest) i (x ∷ xs) (option_or (cond b (Some i) None) (first_made (λ p x. cond (test x) (Some p) None) (i + 1) xs))
    by true few more = (0, x, omega arith, refl, ap (λ ys. (i, x) ∷ ys) (none_passes test (i + 1) xs (omega (arith, few))))
    by false few more = later _ (more few)
