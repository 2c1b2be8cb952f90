-- The groups that are begun one after another are those of the list, each once.
use Rattle.std.proofs.Common.{◌≡◌, ℕ, ◌+◌, Bool, true, false, not, ◌&&◌, ◌||◌, cond, List, [], ◌∷◌, ◌++◌, append-nil, append_assoc, Option, Some, None, refl}
use Rattle.std.proofs.Common.{sym, ◌∙◌, ap, arith}
use Rattle.std.specs.{Prelude.{nat_eq, filter}, List.{position_from}, Option.{is_some}}
use Rattle.std.proofs.lemmas.Bool.{eqb-true}
use Rattle.oc_neutral.specs.Without.{begun_by, place_in}
use Rattle.oc_equations.specs.Sections.{each_once}

-- those that pass two tests
filter_twice : (p q r : ℕ → Bool) → ((h : ℕ) → (q h && p h) ≡ r h) → (xs : List ℕ) → filter p (filter q xs) ≡ filter r xs
filter_twice p q r same [] = refl
filter_twice p q r same (x ∷ xs) = by (q x) (p x) (r x) refl (same x) (filter_twice p q r same xs)
  where
    by : (a b c : Bool) → p x ≡ b → (a && b) ≡ c → filter p (filter q xs) ≡ filter r xs → filter p (cond a (x ∷ filter q xs) (filter q xs)) ≡ cond c (x ∷ filter r xs) (filter r xs)
    by true true true is e rest = ap (λ b. cond b (x ∷ filter p (filter q xs)) (filter p (filter q xs))) is ∙ ap (λ ys. x ∷ ys) rest
    by true false false is e rest = ap (λ b. cond b (x ∷ filter p (filter q xs)) (filter p (filter q xs))) is ∙ rest
    by false b false is e rest = rest
    by true true false is e rest = absurd (cc)
    by true false true is e rest = absurd (cc)
    by false b true is e rest = absurd (cc)

filter_whole : (p : ℕ → Bool) → ((h : ℕ) → p h ≡ true) → (xs : List ℕ) → filter p xs ≡ xs
filter_whole p all [] = refl
filter_whole p all (x ∷ xs) = ap (λ b. cond b (x ∷ filter p xs) (filter p xs)) (all x) ∙ ap (λ ys. x ∷ ys) (filter_whole p all xs)

-- one more
found_more : (test : ℕ → Bool) (i : ℕ) (xs : List ℕ) (y : ℕ) → is_some (position_from test i (xs ++ y ∷ [])) ≡ (is_some (position_from test i xs) || test y)
found_more test i [] y = by (test y)
  where
    by : (b : Bool) → is_some (cond {A = Option ℕ} b (Some i) None) ≡ b
    by true = refl
    by false = refl
found_more test i (x ∷ xs) y = by (test x) (found_more test (i + 1) xs y)
  where
    by : (b : Bool) → is_some (position_from test (i + 1) (xs ++ y ∷ [])) ≡ (is_some (position_from test (i + 1) xs) || test y)
        → is_some (cond b (Some i) (position_from test (i + 1) (xs ++ y ∷ []))) ≡ (is_some (cond b (Some i) (position_from test (i + 1) xs)) || test y)
    by true rest = refl
    by false rest = rest

-- the group is not among those that were begun
abbrev is_new : List ℕ → ℕ → Bool
is_new begun h = not (is_some (place_in begun h))

begun-are : (begun members : List ℕ) → begun_by begun members ≡ begun ++ filter (is_new begun) (each_once members)
begun-are begun [] = sym (append-nil begun)
begun-are begun (g ∷ members) = by (place_in begun g) refl (λ xs. begun-are xs members)
  where
    rest : List ℕ
    rest = filter (λ h. not (nat_eq h g)) (each_once members)

    old : (p : ℕ) → place_in begun g ≡ Some p → (h : ℕ) → (not (nat_eq h g) && is_new begun h) ≡ is_new begun h
    old p e h = test (nat_eq h g) refl
      where
        none : (b : Bool) → (true && b) ≡ b
        none b = refl

        test : (b : Bool) → nat_eq h g ≡ b → (not b && is_new begun h) ≡ is_new begun h
        test false is = none (is_new begun h)
        test true is =
            let same : h ≡ g = eqb-true h g is in
            sym (ap (λ o. not (is_some o)) (ap (place_in begun) same ∙ e))

    new : (h : ℕ) → (not (nat_eq h g) && is_new begun h) ≡ is_new (begun ++ g ∷ []) h
    new h = parts (nat_eq h g) (is_some (place_in begun h)) ∙ ap not (sym (found_more (nat_eq h) 0 begun g))
      where
        parts : (a b : Bool) → (not a && not b) ≡ not (b || a)
        parts a b = grind arith

    by : (o : Option ℕ) → place_in begun g ≡ o → ((xs : List ℕ) → begun_by xs members ≡ xs ++ filter (is_new xs) (each_once members))
        → begun_by (cond (is_some o) begun (begun ++ g ∷ [])) members ≡ begun ++ cond (not (is_some o)) (g ∷ filter (is_new begun) rest) (filter (is_new begun) rest)
    by (Some p) e next = next begun ∙ ap (λ ys. begun ++ ys) (sym (filter_twice (is_new begun) (λ h. not (nat_eq h g)) (is_new begun) (old p e) (each_once members)))
    by None e next =
        next (begun ++ g ∷ [])
        ∙ append_assoc begun (g ∷ []) (filter (is_new (begun ++ g ∷ [])) (each_once members))
        ∙ ap (λ ys. begun ++ (g ∷ ys)) (sym (filter_twice (is_new begun) (λ h. not (nat_eq h g)) (is_new (begun ++ g ∷ [])) new (each_once members)))

pub groups-once : (members : List ℕ) → begun_by [] members ≡ each_once members
groups-once members = begun-are [] members ∙ filter_whole (is_new []) (λ h. refl) (each_once members)
