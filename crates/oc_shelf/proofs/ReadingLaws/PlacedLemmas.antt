-- Entries at places that differ, in an order of their own.
use Rattle.std.proofs.Common.{◌≡◌, ℕ, zero, suc, ◌<◌, ◌≤◌, Bool, true, false, List, [], ◌∷◌, ◌++◌, length, take, Option, None, Some, refl, sym, ◌∙◌, ap, subst, arith, get_or, length-take, inl, inr}
use Rattle.std.specs.{Prelude.{nat_eq, slice_get}, List.{All, AllByRecursion, Any, IsDistinct}, List.Sorted.{IsPermutation}}
use Rattle.std.proofs.lemmas.{Bool.{cases_eq, eq-eqb, ne_eqb}, List.{get_or-take}, List.Folds.{Any-from_list_any, list_any_at}}
use Rattle.std.proofs.lemmas.{List.Sorted.{All-permutation, list_any-IsPermutation}, Map.Keys.{IsDistinct-IsPermutation, apart_from_distinct}}
use Rattle.std.proofs.lemmas.Option.{same_Some, get_or_from_slice_get, slice_get-get_or}
use Rattle.oc_shelf.specs.{declared.reading.order.PlacedEntry.{PlacedEntry}, Reading.Collected.{collected, with_option}, Reading.Order.{is_among}}
use Rattle.oc_shelf.proofs.ReadingLaws.CollectedLemmas.{all_with, collected-all, collected-at, length-step}

-- two are at one place
abbrev at_one : PlacedEntry → PlacedEntry → Bool
at_one x y = nat_eq x.place y.place

at_one_flips : (x y : PlacedEntry) → at_one x y ≡ at_one y x
at_one_flips x y = by x.place y.place
  where
    by : (a b : ℕ) → nat_eq a b ≡ nat_eq b a
    by a b = elim (cases_eq a b) [
      | inl same ↦ eq-eqb a b same ∙ sym (eq-eqb b a (sym same))
      | inr other ↦ ne_eqb a b other ∙ sym (ne_eqb b a (λ e. other (sym e)))
    ]

module _ {X : Type 0} where
  each_from : (P : X → Type 0) (xs : List X) → AllByRecursion P xs → All P xs
  each_from P [] all k d low = absurd (omega (arith, low))
  each_from P (x ∷ xs) all zero d low = all.0
  each_from P (x ∷ xs) all (suc k) d low = each_from P xs all.1 k d (omega (arith, low))

  distinct_push : (e : X → X → Bool) (xs : List X) (y : X) → IsDistinct e xs → AllByRecursion (λ x. e x y ≡ false) xs → IsDistinct e (xs ++ y ∷ [])
  unfolding IsDistinct
  distinct_push e [] y d all = (tt, tt)
  distinct_push e (x ∷ xs) y d all =
      (all_with (λ z. e x z ≡ false) xs (Some y) d.0 (λ z same. subst (λ u. e x u ≡ false) (same_Some y z same) all.0), distinct_push e xs y d.1 all.1)

  distinct_none : (e : X → X → Bool) → IsDistinct e []
  unfolding IsDistinct
  distinct_none e = tt

module _ (placed : ℕ → Option PlacedEntry) (n : ℕ) (entries : List PlacedEntry) (are : IsPermutation (collected placed n) entries) where
  -- what holds of each that is placed holds at each position
  pub each_placed : (P : PlacedEntry → Type 0) → ((k : ℕ) (x : PlacedEntry) → k < n → placed k ≡ Some x → P x) → (j : ℕ) (d : PlacedEntry) → j < length entries → P (get_or entries j d)
  each_placed P each j d low = All-permutation P (collected placed n) entries are (each_from P (collected placed n) (collected-all placed P n each)) j d low

  -- the place of each is among them
  pub among_all : (k : ℕ) (x : PlacedEntry) → k < n → placed k ≡ Some x → is_among entries x.place ≡ true
  among_all k x low some =
      let here : slice_get (collected placed n) (length (collected placed k)) ≡ Some x = collected-at placed k n x some low in
      sym (list_any-IsPermutation (λ (e : PlacedEntry). nat_eq e.place x.place) (collected placed n) entries are)
      ∙ list_any_at (λ (e : PlacedEntry). nat_eq e.place x.place) (collected placed n) (length (collected placed k)) x (length-step placed k n x some low)
      (ap (λ (e : PlacedEntry). nat_eq e.place x.place) (get_or_from_slice_get (collected placed n) (length (collected placed k)) x x here) ∙ eq-eqb x.place x.place refl)

  module _ (apart : (j k : ℕ) (x y : PlacedEntry) → j < k → k < n → placed j ≡ Some x → placed k ≡ Some y → x.place ≡ y.place → ⊥) where
    distinct_upto : (m : ℕ) → m ≤ n → IsDistinct at_one (collected placed m)
    distinct_upto zero l = distinct_none at_one
    distinct_upto (suc m) l = by (placed m) refl (distinct_upto m (omega (arith, l)))
      where
        by : (o : Option PlacedEntry) → placed m ≡ o → IsDistinct at_one (collected placed m) → IsDistinct at_one (with_option (collected placed m) o)
        by None e d = d
        by (Some x) e d =
            distinct_push at_one (collected placed m) x d
            (collected-all placed (λ y. at_one y x ≡ false) m (λ k y low h. ne_eqb y.place x.place (apart k m y x low (omega (arith, l)) h e)))

    -- none before one is at its place
    pub not_among : (j : ℕ) (d : PlacedEntry) → j < length entries → is_among (take j entries) (get_or entries j d).place ≡ false
    not_among j d low = by (is_among (take j entries) (get_or entries j d).place) refl
      where
        same_default : (q : ℕ) (x : PlacedEntry) → q < length entries → get_or entries q x ≡ get_or entries q d
        same_default q x l = get_or_from_slice_get entries q (get_or entries q d) x (slice_get-get_or entries q d l)

        by : (b : Bool) → is_among (take j entries) (get_or entries j d).place ≡ b → b ≡ false
        by false e = refl
        by true e = of (Any-from_list_any (λ (x : PlacedEntry). nat_eq x.place (get_or entries j d).place) (take j entries) e)
          where
            of : Any (λ (x : PlacedEntry). nat_eq x.place (get_or entries j d).place ≡ true) (take j entries) → true ≡ false
            of m =
                let below : m.0 < j = let l = m.2 in omega (arith, l, length-take j entries) in
                let is : get_or entries m.0 d ≡ m.1 = sym (same_default m.0 m.1 (omega (arith, below, low))) ∙ sym (get_or-take j entries m.0 m.1 below) ∙ m.3 in
                let other = apart_from_distinct at_one entries m.0 j d (IsDistinct-IsPermutation at_one at_one_flips (collected placed n) entries are (distinct_upto n (omega arith))) below low in
                sym m.4 ∙ ap (λ (x : PlacedEntry). nat_eq x.place (get_or entries j d).place) (sym is) ∙ other
