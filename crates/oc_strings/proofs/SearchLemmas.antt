-- The search among names in ascending order.
use Rattle.std.proofs.Common.{◌≡◌, ℕ, ◌+◌, ◌<◌, ◌≤◌, true, false, List, [], length, reverse, get_or, Some, None, Ordering, sym, ◌∙◌, ap, subst, arith, ⊎_elim}
use Rattle.std.proofs.lemmas.{List.{get_or-map, length-map, reverse-reverse}, Bool.{both_ways, cases_lt, cond-false, false_from_ne_true}}
use Rattle.std.proofs.lemmas.Cmp.{nat_list_cmp_total, tied_itself}
use Rattle.std.specs.{Ordering.{nat_cmp, is_lt, ordering_reverse}, Cmp.Lexicographic.{slice_cmp}, declared.cmp.Ordering.TheVariants.{Less, Equal, Greater}}
use Rattle.oc_base.specs.Strings.{is_given, table_place, tops_of, place_from}
use Rattle.oc_strings.specs.{declared.table.NameSpan.{NameSpan}, Order.{is_before, name_at}, Inside.{name_in, names_in, pick, IsSearchable, IsTable}}
use Rattle.oc_strings.proofs.{GivenLemmas.{place_of_given}, OrderLemmas.{earlier, tied_same, less_from}}

-- the name is none of those before low, nor of those from high on
pub record IsNarrowed (names : List (List ℕ)) (order : List ℕ) (name : List ℕ) (low high : ℕ) : Type 0 where
  pub below : low ≤ high
  pub within : high ≤ length order
  pub before : (k : ℕ) → k < low → is_before (name_at names (get_or order k 0)) name ≡ true
  pub after : (k : ℕ) → high ≤ k → k < length order → is_before name (name_at names (get_or order k 0)) ≡ true

before_trans : (a b c : List ℕ) → is_before a b ≡ true → is_before b c ≡ true → is_before a c ≡ true
before_trans a b c ab bc =
    ap is_lt (nat_list_cmp_total.trans (reverse a) (reverse b) (reverse c) (less_from _ ab) (less_from _ bc))

module _ (names : List (List ℕ)) (order : List ℕ) (s : IsSearchable names order) (name : List ℕ) where
  picked : (k : ℕ) → k < length order → name_at (pick names order) k ≡ name_at names (get_or order k 0)
  picked k l = get_or-map (name_at names) order k 0 [] l

  in_order : (i j : ℕ) → i < j → j < length order → is_before (name_at names (get_or order i 0)) (name_at names (get_or order j 0)) ≡ true
  in_order i j l w =
      let w' : i < length order = omega arith in
      let in' : j < length (pick names order) = omega (arith, length-map order (name_at names)) in
      subst (λ (a : List ℕ). is_before a (name_at names (get_or order j 0)) ≡ true) (picked i w')
      (subst (λ (b : List ℕ). is_before (name_at (pick names order) i) b ≡ true) (picked j w) (earlier (pick names order) s.ascends i j l in'))

  -- the name in the middle stands before it
  pub narrowed_low : (low high m : ℕ) → IsNarrowed names order name low high → low ≤ m → m < high → slice_cmp nat_cmp (reverse (name_at names (get_or order m 0))) (reverse name) ≡ Less
      → IsNarrowed names order name (m + 1) high
  narrowed_low low high m n l h e = record {
    below = omega arith;
    within = n.within;
    before = λ k l'.
        let m' : m < length order = omega (arith, n.within) in
        ⊎_elim
        (λ less. before_trans (name_at names (get_or order k 0)) (name_at names (get_or order m 0)) name (in_order k m less m') (ap is_lt e))
        (λ at.
        let same : m ≡ k = omega arith in
        subst (λ (j : ℕ). is_before (name_at names (get_or order j 0)) name ≡ true) same (ap is_lt e))
        (cases_lt k m);
    after = n.after;
  }

  -- it stands before the name in the middle
  pub narrowed_high : (low high m : ℕ) → IsNarrowed names order name low high → low ≤ m → m < high → slice_cmp nat_cmp (reverse (name_at names (get_or order m 0))) (reverse name) ≡ Greater
      → IsNarrowed names order name low m
  narrowed_high low high m n l h e =
      let first : is_before name (name_at names (get_or order m 0)) ≡ true
      = ap is_lt (nat_list_cmp_total.antisymm (reverse name) (reverse (name_at names (get_or order m 0))) ∙ ap ordering_reverse e)
      in
      record {
        below = l;
        within = omega (arith, n.within);
        before = n.before;
        after = λ k l' w.
            ⊎_elim
            (λ more. before_trans name (name_at names (get_or order m 0)) (name_at names (get_or order k 0)) first (in_order m k more w))
            (λ at.
            let same : m ≡ k = omega arith in
            subst (λ (j : ℕ). is_before name (name_at names (get_or order j 0)) ≡ true) same first)
            (cases_lt m k);
      }

  -- it is the name in the middle
  pub narrowed_met : (m : ℕ) → slice_cmp nat_cmp (reverse (name_at names (get_or order m 0))) (reverse name) ≡ Equal → name_at names (get_or order m 0) ≡ name
  narrowed_met m e =
      sym (reverse-reverse (name_at names (get_or order m 0))) ∙ ap reverse (tied_same (reverse (name_at names (get_or order m 0))) (reverse name) e) ∙ reverse-reverse name

  -- nothing is left, so it is none of the names
  pub narrowed_out : (low high : ℕ) → IsNarrowed names order name low high → high ≤ low → is_given names name ≡ false
  narrowed_out low high n l =
      false_from_ne_true (is_given names name) (λ g.
      let p = place_of_given names name g in
      let w = s.whole p.at p.within in
      let is : name_at names (get_or order w.0 0) ≡ name = w.2 ∙ p.is in
      let self : is_before name name ≡ false = ap is_lt (tied_itself nat_list_cmp_total (reverse name)) in
      ⊎_elim
      (λ less. both_ways (is_before name name) self (subst (λ (a : List ℕ). is_before a name ≡ true) is (n.before w.0 less)))
      (λ more. both_ways (is_before name name) self (subst (λ (a : List ℕ). is_before name a ≡ true) is (n.after w.0 (omega arith) w.1)))
      (cases_lt w.0 low))

  -- where a name that is not given stands
  pub no_place : (head : ℕ) → is_given names name ≡ false → table_place head names name ≡ None
  unfolding table_place
  no_place head e = cond-false (is_given names name) (place_from head (tops_of names) name) None e

-- the given name whose place is known
pub given_is : (head : ℕ) (bytes : List ℕ) (given : List NameSpan) (near : ℕ) → near < length given
    → (place : NameSpan) → ((d : NameSpan) → place ≡ get_or given near d) → name_at (names_in head bytes given) near ≡ name_in head bytes place
given_is head bytes given near l place e = get_or-map (name_in head bytes) given near place [] l ∙ ap (name_in head bytes) (sym (e place))

module _ (head : ℕ) (bytes : List ℕ) (given : List NameSpan) (order : List ℕ) (t : IsTable head bytes given order) (name : List ℕ) (m : ℕ) (l : m < length order) where
  number_within : get_or order m 0 < length given
  number_within = omega (arith, t.searchable.numbers m l, length-map given (name_in head bytes))

  -- what a comparison says of the name with the number in the middle
  pub compared : (found : List ℕ) (r : Ordering) → found ≡ name_in head bytes (get_or given (get_or order m 0) (record { at = 0; len = 0 }))
      → r ≡ slice_cmp nat_cmp (reverse found) (reverse name) → slice_cmp nat_cmp (reverse (name_at (names_in head bytes given) (get_or order m 0))) (reverse name) ≡ r
  compared found r is e =
      ap (λ n. slice_cmp nat_cmp (reverse n) (reverse name)) (get_or-map (name_in head bytes) given (get_or order m 0) (record { at = 0; len = 0 }) [] number_within ∙ sym is) ∙ sym e

  -- where it stands, if it is the name
  pub found_place : name_at (names_in head bytes given) (get_or order m 0) ≡ name
      → Some (get_or given (get_or order m 0) (record { at = 0; len = 0 })).at ≡ table_place head (names_in head bytes given) name
  found_place same =
      sym (t.placed (get_or order m 0) (record { at = 0; len = 0 }) number_within) ∙ ap (table_place head (names_in head bytes given)) same
