-- Where names stand in texts: the law of the string table.
use Rattle.std.proofs.Common.{◌≡◌, ℕ, zero, suc, ◌+◌, ◌-◌, ◌<◌, ◌≤◌, Bool, true, false, not, ◌&&◌, ◌||◌, List, [], ◌∷◌, ◌++◌, length, get_or, Some, refl, sym, ◌∙◌, ap, arith, append_assoc, length-append, ⊎_elim}
use Rattle.std.proofs.lemmas.{Bool.{and_parts, ltb-true, cases_Bool}, List.Sums.{sum_by-cons, get_or-le-sum_by}, List.Concat.{flat_map-append}}
use Rattle.std.proofs.lemmas.Option.{same_Some}
use Rattle.std.specs.{List.{list_any, fold, sum_by}, Option.{is_some, option_or}, Prelude.{nat_lt, if◌then◌else◌}}
use Rattle.oc_base.specs.Strings.{ends, is_maximal, is_given, with_top, tops_of, text_of, place_from}
use Rattle.oc_strings.proofs.{EndLemmas.{ends_split, ends_self, ends_trans}, GivenLemmas.{found, given_passes, place_of_given, tops_have, longer_for}}

-- the name stands in the text behind a front of so many bytes, with a NUL behind it
pub record Stands (name text : List ℕ) (at : ℕ) : Type 0 where
  pub front : List ℕ
  pub back : List ℕ
  pub is : text ≡ front ++ (name ++ 0 ∷ back)
  pub place : length front ≡ at

-- the place that a name is given is past the first text's, and the name stands there
pub record StandsFrom (at : ℕ) (name text : List ℕ) (p : ℕ) : Type 0 where
  pub above : at ≤ p
  pub there : Stands name text (p - at)

pub stands : (at : ℕ) (tops : List (List ℕ)) (name : List ℕ) (p : ℕ) → place_from at tops name ≡ Some p → StandsFrom at name (text_of tops) p
unfolding text_of
stands at [] name p e = absurd (cc)
stands at (top ∷ tops) name p e = by (λ later. stands (at + (length top + 1)) tops name p later) (ends name top) refl e
  where
    by : (place_from (at + (length top + 1)) tops name ≡ Some p → StandsFrom (at + (length top + 1)) name (text_of tops) p)
        → (b : Bool) → ends name top ≡ b → (if b then Some (at + (length top - length name)) else place_from (at + (length top + 1)) tops name) ≡ Some p
        → StandsFrom at name ((top ++ 0 ∷ []) ++ text_of tops) p
    by rest true t e =
        let s = ends_split name top t in
        let here : at + (length top - length name) ≡ p = same_Some _ _ e in
        let long : length top ≡ length s.front + length name = ap length s.is ∙ length-append s.front name in
        record {
          above = omega arith;
          there = record {
            front = s.front;
            back = text_of tops;
            is = ap (λ t. (t ++ 0 ∷ []) ++ text_of tops) s.is ∙ simp append_assoc;
            place = omega arith;
          };
        }
    by rest false t e =
        let s = rest e in
        record {
          above = omega (arith, s.above);
          there = record {
            front = (top ++ 0 ∷ []) ++ s.there.front;
            back = s.there.back;
            is = ap (λ t. (top ++ 0 ∷ []) ++ t) s.there.is ∙ sym (append_assoc (top ++ 0 ∷ []) s.there.front (name ++ 0 ∷ s.there.back));
            place = length-append (top ++ 0 ∷ []) s.there.front ∙ omega (arith, length-append top (0 ∷ []), s.there.place, s.above);
          };
        }

-- a name has a place exactly where it ends one of the tops
pub has_place : (at : ℕ) (tops : List (List ℕ)) (name : List ℕ) → is_some (place_from at tops name) ≡ list_any (ends name) tops
has_place at [] name = refl
has_place at (top ∷ tops) name = by (has_place (at + (length top + 1)) tops name) (ends name top)
  where
    by : is_some (place_from (at + (length top + 1)) tops name) ≡ list_any (ends name) tops
        → (b : Bool) → is_some (if b then Some (at + (length top - length name)) else place_from (at + (length top + 1)) tops name) ≡ (b || list_any (ends name) tops)
    by rest true = refl
    by rest false = rest

-- texts behind one another
pub place_from-append : (at : ℕ) (xs ys : List (List ℕ)) (name : List ℕ)
    → place_from at (xs ++ ys) name ≡ option_or (place_from at xs name) (place_from (at + length (text_of xs)) ys name)
unfolding text_of
place_from-append at [] ys name = ap (λ a. place_from a ys name) (omega arith)
place_from-append at (x ∷ xs) ys name = by (place_from-append (at + (length x + 1)) xs ys name) (ends name x)
  where
    by : place_from (at + (length x + 1)) (xs ++ ys) name ≡ option_or (place_from (at + (length x + 1)) xs name) (place_from (at + (length x + 1) + length (text_of xs)) ys name)
        → (b : Bool) → (if b then Some (at + (length x - length name)) else place_from (at + (length x + 1)) (xs ++ ys) name)
        ≡ option_or (if b then Some (at + (length x - length name)) else place_from (at + (length x + 1)) xs name) (place_from (at + length ((x ++ 0 ∷ []) ++ text_of xs)) ys name)
    by rest true = refl
    by rest false =
        rest
        ∙ ap (λ a. option_or (place_from (at + (length x + 1)) xs name) (place_from a ys name))
        (omega (arith, length-append (x ++ 0 ∷ []) (text_of xs), length-append x (0 ∷ [])))

-- the texts of the tops are no longer than the names with their NULs
pub tops_short : (all acc names : List (List ℕ))
    → length (text_of (fold (with_top all) acc names)) ≤ length (text_of acc) + sum_by (λ name. length name + 1) names
unfolding text_of
tops_short all acc [] = omega arith
tops_short all acc (m ∷ ms) =
    omega (arith, tops_short all (with_top all acc m) ms, sum_by-cons (λ (name : List ℕ). length name + 1) m ms, step (is_maximal all m && not (is_given acc m)))
  where
    step : (b : Bool) → length (text_of (if b then acc ++ m ∷ [] else acc)) ≤ length (text_of acc) + (length m + 1)
    step true =
        omega (arith, ap length (flat_map-append (λ (top : List ℕ). top ++ 0 ∷ []) acc (m ∷ [])), length-append (text_of acc) (text_of (m ∷ [])), length-append (m ++ 0 ∷ []) [], length-append m (0 ∷ []))
    step false = omega arith

-- a name that ends a name with a place has a place
pub placed_too : (tops : List (List ℕ)) (n m : List ℕ) → ends n m ≡ true → list_any (ends m) tops ≡ true → list_any (ends n) tops ≡ true
placed_too tops n m e placed =
    let f = found (ends m) tops placed in
    given_passes (ends n) tops f.name f.given (ends_trans n m f.name e f.passes)

-- every given name ends one of the tops; `fuel` is how much longer than it a given name may be
pub top_for : (names : List (List ℕ)) (fuel : ℕ) (n : List ℕ) → ((k : ℕ) (d : List ℕ) → k < length names → length (get_or names k d) ≤ length n + fuel)
    → is_given names n ≡ true → list_any (ends n) (tops_of names) ≡ true
unfolding tops_of
top_for names zero n short g =
    ⊎_elim
    (λ top. given_passes (ends n) (tops_of names) n (tops_have names [] names n top g) (ends_self n))
    (λ not_top.
    let f = longer_for names n not_top in
    let p = place_of_given names f.name f.given in
    let longer : length n < length f.name = ltb-true (length n) (length f.name) (and_parts (nat_lt (length n) (length f.name)) (ends n f.name) f.passes).0 in
    absurd (omega (arith, short p.at [] p.within, ap length p.is)))
    (cases_Bool (is_maximal names n))
top_for names (suc fuel) n short g =
    ⊎_elim
    (λ top. given_passes (ends n) (tops_of names) n (tops_have names [] names n top g) (ends_self n))
    (λ not_top.
    let f = longer_for names n not_top in
    let both = and_parts (nat_lt (length n) (length f.name)) (ends n f.name) f.passes in
    let longer : length n < length f.name = ltb-true (length n) (length f.name) both.0 in
    placed_too (tops_of names) n f.name both.1
    (top_for names fuel f.name (λ k d l. let h : length (get_or names k d) ≤ length n + suc fuel = short k d l in omega arith) f.given))
    (cases_Bool (is_maximal names n))

-- a given name has a place
pub given_place : (head : ℕ) (names : List (List ℕ)) (n : List ℕ) → is_given names n ≡ true → is_some (place_from head (tops_of names) n) ≡ true
given_place head names n g =
    has_place head (tops_of names) n
    ∙ top_for names (sum_by length names) n (λ k d l. let h : length (get_or names k d) ≤ sum_by length names = get_or-le-sum_by length names k d l in omega arith) g
