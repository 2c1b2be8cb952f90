-- Names among given names, and the maximal ones.
use Rattle.std.proofs.Common.{◌≡◌, ℕ, zero, suc, ◌<◌, Bool, true, false, not, ◌&&◌, ◌||◌, List, [], ◌∷◌, ◌++◌, length, get_or, refl, sym, ◌∙◌, ap, subst, arith, inl, inr, ◌⊎◌, ⊎_elim}
use Rattle.std.proofs.lemmas.{Bool.{and_from, lt-ltb, or_cases, or_left, or_right, both_ways, cases_lt, not-false}, Slice.Eq.{bytes_eq-Decides}}
use Rattle.std.specs.{List.{list_any, fold}, Cmp.Lexicographic.{pointwise}, Prelude.{nat_eq, nat_lt, if◌then◌else◌}}
use Rattle.oc_base.specs.Strings.{ends, is_proper_tail, is_maximal, is_given, with_top}
use Rattle.oc_strings.proofs.EndLemmas.{ends_whole}

-- a given name that passes a test
pub record Found (test : List ℕ → Bool) (names : List (List ℕ)) : Type 0 where
  pub name : List ℕ
  pub passes : test name ≡ true
  pub given : is_given names name ≡ true

pub same_name : (a b : List ℕ) → pointwise nat_eq a b ≡ true → a ≡ b
same_name a b e = (bytes_eq-Decides a b).0 e

pub name_itself : (a : List ℕ) → pointwise nat_eq a a ≡ true
name_itself a = (bytes_eq-Decides a a).1 refl

pub found : (test : List ℕ → Bool) (names : List (List ℕ)) → list_any test names ≡ true → Found test names
found test [] e = absurd (both_ways false refl e)
found test (m ∷ ms) e =
    ⊎_elim
    (λ here. record { name = m; passes = here; given = or_left (pointwise nat_eq m m) (is_given ms m) (name_itself m) })
    (λ later. let f = found test ms later in record { name = f.name; passes = f.passes; given = or_right (pointwise nat_eq f.name m) (is_given ms f.name) f.given })
    (or_cases (test m) (list_any test ms) e)

pub given_passes : (test : List ℕ → Bool) (names : List (List ℕ)) (n : List ℕ) → is_given names n ≡ true → test n ≡ true → list_any test names ≡ true
given_passes test [] n g e = absurd (both_ways false refl g)
given_passes test (m ∷ ms) n g e =
    ⊎_elim
    (λ here. or_left (test m) (list_any test ms) (subst (λ (x : List ℕ). test x ≡ true) (same_name n m here) e))
    (λ later. or_right (test m) (list_any test ms) (given_passes test ms n later e))
    (or_cases (pointwise nat_eq n m) (is_given ms n) g)

-- a name is given where it stands at a place of the list
pub given_at : (names : List (List ℕ)) (i : ℕ) (d : List ℕ) → i < length names → is_given names (get_or names i d) ≡ true
given_at [] i d l = absurd (omega arith)
given_at (m ∷ ms) zero d l = or_left (pointwise nat_eq m m) (is_given ms m) (name_itself m)
given_at (m ∷ ms) (suc i) d l = or_right (pointwise nat_eq (get_or ms i d) m) (is_given ms (get_or ms i d)) (given_at ms i d (omega arith))

-- and a given name stands at a place of the list
pub record Place (names : List (List ℕ)) (n : List ℕ) : Type 0 where
  pub at : ℕ
  pub within : at < length names
  pub is : get_or names at [] ≡ n

pub place_of_given : (names : List (List ℕ)) (n : List ℕ) → is_given names n ≡ true → Place names n
place_of_given [] n g = absurd (both_ways false refl g)
place_of_given (m ∷ ms) n g =
    ⊎_elim
    (λ here. record { at = 0; within = omega arith; is = sym (same_name n m here) })
    (λ later. let p = place_of_given ms n later in record { at = suc p.at; within = omega arith; is = p.is })
    (or_cases (pointwise nat_eq n m) (is_given ms n) g)

pub given-append : (xs ys : List (List ℕ)) (n : List ℕ) → is_given (xs ++ ys) n ≡ (is_given xs n || is_given ys n)
given-append [] ys n = refl
given-append (x ∷ xs) ys n = rw (given-append xs ys n) (assoc (pointwise nat_eq n x) (is_given xs n) (is_given ys n))
  where
    assoc : (a b c : Bool) → (a || (b || c)) ≡ ((a || b) || c)
    assoc true b c = refl
    assoc false b c = refl

-- a name that ends a longer given name is not maximal
pub not_maximal : (names : List (List ℕ)) (n m : List ℕ) → is_given names m ≡ true → ends n m ≡ true → length n < length m → is_maximal names n ≡ false
not_maximal names n m given e longer =
    ap not (given_passes (is_proper_tail n) names m given (and_from (nat_lt (length n) (length m)) (ends n m) (lt-ltb (length n) (length m) longer) e))

-- a maximal name that ends a given name is that name
pub maximal_is : (names : List (List ℕ)) (n m : List ℕ) → is_maximal names n ≡ true → is_given names m ≡ true → ends n m ≡ true → n ≡ m
maximal_is names n m top given e =
    ends_whole n m e
    (⊎_elim (λ longer. absurd (both_ways (is_maximal names n) (not_maximal names n m given e longer) top)) (λ short. short) (cases_lt (length n) (length m)))

-- a name that is not maximal ends a longer given name
pub longer_for : (names : List (List ℕ)) (n : List ℕ) → is_maximal names n ≡ false → Found (is_proper_tail n) names
longer_for names n e = found (is_proper_tail n) names (not-false (list_any (is_proper_tail n) names) e)

-- a fold that gathers the tops keeps what it has
pub tops_keep : (all acc names : List (List ℕ)) (n : List ℕ) → is_given acc n ≡ true → is_given (fold (with_top all) acc names) n ≡ true
tops_keep all acc [] n g = g
tops_keep all acc (m ∷ ms) n g = tops_keep all (with_top all acc m) ms n (kept (is_maximal all m && not (is_given acc m)))
  where
    kept : (b : Bool) → is_given (if b then acc ++ m ∷ [] else acc) n ≡ true
    kept true = given-append acc (m ∷ []) n ∙ or_left (is_given acc n) (is_given (m ∷ []) n) g
    kept false = g

-- and has each maximal name that it met
pub tops_have : (all acc names : List (List ℕ)) (n : List ℕ) → is_maximal all n ≡ true → is_given names n ≡ true → is_given (fold (with_top all) acc names) n ≡ true
tops_have all acc [] n top g = absurd (both_ways false refl g)
tops_have all acc (m ∷ ms) n top g =
    ⊎_elim
    (λ here. tops_keep all (with_top all acc m) ms n (added (same_name n m here)))
    (λ later. tops_have all (with_top all acc m) ms n top later)
    (or_cases (pointwise nat_eq n m) (is_given ms n) g)
  where
    by : (b c : Bool) → is_maximal all m ≡ b → is_given acc m ≡ c → b ≡ true → is_given (if b && not c then acc ++ m ∷ [] else acc) m ≡ true
    by true true e f t = f
    by true false e f t = given-append acc (m ∷ []) m ∙ or_right (is_given acc m) (is_given (m ∷ []) m) (or_left (pointwise nat_eq m m) false (name_itself m))
    by false c e f t = absurd (both_ways false refl t)

    added : n ≡ m → is_given (with_top all acc m) n ≡ true
    added e =
        let top' : is_maximal all m ≡ true = subst (λ (x : List ℕ). is_maximal all x ≡ true) e top in
        subst (λ (x : List ℕ). is_given (with_top all acc m) x ≡ true) (sym e) (by (is_maximal all m) (is_given acc m) refl refl top')

-- every top is a given name, if those before were
pub tops_given : (all acc names : List (List ℕ)) (n : List ℕ) → is_given (fold (with_top all) acc names) n ≡ true → (is_given acc n ≡ true) ⊎ (is_given names n ≡ true)
tops_given all acc [] n g = inl g
tops_given all acc (m ∷ ms) n g =
    ⊎_elim
    (λ before. split (is_maximal all m && not (is_given acc m)) before)
    (λ later. inr (or_right (pointwise nat_eq n m) (is_given ms n) later))
    (tops_given all (with_top all acc m) ms n g)
  where
    split : (b : Bool) → is_given (if b then acc ++ m ∷ [] else acc) n ≡ true → (is_given acc n ≡ true) ⊎ ((pointwise nat_eq n m || is_given ms n) ≡ true)
    split false h = inl h
    split true h =
        ⊎_elim
        (λ old. inl old)
        (λ new. inr (or_left (pointwise nat_eq n m) (is_given ms n) (alone (pointwise nat_eq n m) new)))
        (or_cases (is_given acc n) (is_given (m ∷ []) n) (sym (given-append acc (m ∷ []) n) ∙ h))
      where
        alone : (b : Bool) → (b || false) ≡ true → b ≡ true
        alone true e = refl
        alone false e = e
