-- Names in ascending order, and which of them end which.
use Rattle.std.proofs.Common.{take, drop, ◌≡◌, ℕ, zero, suc, ◌+◌, ◌-◌, ◌<◌, ◌≤◌, true, false, List, [], ◌∷◌, ◌++◌, length, reverse, Ordering, refl, sym, ◌∙◌, ap, subst, arith, ⊎_elim}
use Rattle.std.proofs.lemmas.{List.{reverse-append, reverse-reverse, take-append-drop}, List.Sorted.{ranks_by, sorted_far}, Bool.{both_ways, cases_order}}
use Rattle.std.proofs.lemmas.{Bool.Decides.{nat_tests}, Cmp.{nat_list_cmp_total, tied_itself, nat_cmp_total}}
use Rattle.std.specs.{Ordering.{nat_cmp, is_lt, is_le, ordering_then, ordering_reverse}, Cmp.Lexicographic.{slice_cmp}}
use Rattle.std.specs.declared.cmp.Ordering.TheVariants.{Less, Equal, Greater}
use Rattle.oc_base.specs.Strings.{ends}
use Rattle.oc_strings.specs.Order.{SharesEnd, is_before, Ascends, StrictlyAscends, name_at}
use Rattle.oc_strings.proofs.{EndLemmas.{ends_split, ends_from}, KeyLemmas.{equal}}

-- the order of lists of bytes
abbrev pub order : List ℕ → List ℕ → Ordering
order = slice_cmp nat_cmp

pub less_from : (o : Ordering) → is_lt o ≡ true → o ≡ Less
less_from Less e = refl
less_from Equal e = absurd (both_ways false refl e)
less_from Greater e = absurd (both_ways false refl e)

-- a front stands at or before what it begins
front_first : (x z : List ℕ) → is_le (order x (x ++ z)) ≡ true
front_first [] [] = refl
front_first [] (c ∷ z) = refl
front_first (a ∷ x) z = by (front_first x z) (nat_cmp a a) (tied_itself nat_cmp_total a)
  where
    by : is_le (order x (x ++ z)) ≡ true → (o : Ordering) → o ≡ Equal → is_le (ordering_then o (order x (x ++ z))) ≡ true
    by rest o e = subst (λ (o : Ordering). is_le (ordering_then o (order x (x ++ z))) ≡ true) (sym e) rest

-- what begins with x
record Begins (x y : List ℕ) : Type 0 where
  rest : List ℕ
  is : y ≡ x ++ rest

-- heads of which neither is above the other
heads_equal : (a b : ℕ) (o p : Ordering) → is_le (ordering_then (nat_cmp a b) o) ≡ true → is_le (ordering_then (nat_cmp b a) p) ≡ true → (a ≡ b) × (is_le o ≡ true) × (is_le p ≡ true)
heads_equal a b o p low high =
    ⊎_elim
    (λ same. (same, subst (λ (t : Ordering). is_le (ordering_then t o) ≡ true) (equal a b same) low, subst (λ (t : Ordering). is_le (ordering_then t p) ≡ true) (equal b a (sym same)) high))
    (λ apart. absurd (⊎_elim
    (λ below. both_ways false refl (subst (λ (t : Ordering). is_le (ordering_then t p) ≡ true) (above b a below) high))
    (λ over. both_ways false refl (subst (λ (t : Ordering). is_le (ordering_then t o) ≡ true) (above a b over) low))
    apart))
    (cases_order a b)
  where
    above : (m n : ℕ) → n < m → nat_cmp m n ≡ Greater
    above m n l = grind (arith, nat_tests)

-- what stands between x and a list that begins with it begins with it
between : (x y z : List ℕ) → is_le (order x y) ≡ true → is_le (order y (x ++ z)) ≡ true → Begins x y
between [] y z low high = record { rest = y; is = refl }
between (a ∷ x) [] z low high = absurd (both_ways false refl low)
between (a ∷ x) (b ∷ y) z low high =
    let h = heads_equal a b (order x y) (order y (x ++ z)) low high in
    let r = between x y z h.1 h.2 in
    record { rest = r.rest; is = ap (λ c. c ∷ y) (sym h.0) ∙ ap (λ t. a ∷ t) r.is }

-- a name is a tail where it begins the other one, both read from the last byte on
reversed_begins : (a b : List ℕ) → ends a b ≡ true → Begins (reverse a) (reverse b)
reversed_begins a b e =
    let t = ends_split a b e in
    record { rest = reverse t.front; is = ap reverse t.is ∙ reverse-append t.front a }

begins_reversed : (a b : List ℕ) → Begins (reverse a) (reverse b) → ends a b ≡ true
begins_reversed a b h =
    ends_from a b (reverse h.rest)
    (sym (reverse-reverse b) ∙ ap reverse h.is ∙ reverse-append (reverse a) h.rest ∙ ap (λ t. reverse h.rest ++ t) (reverse-reverse a))

-- a name stands at or before one that it ends
before_ended : (a b : List ℕ) → ends a b ≡ true → is_le (order (reverse a) (reverse b)) ≡ true
before_ended a b e =
    let h = reversed_begins a b e in
    subst (λ (t : List ℕ). is_le (order (reverse a) t) ≡ true) (sym h.is) (front_first (reverse a) h.rest)

-- a common front does not count
same_fronts : (t x y : List ℕ) → order (t ++ x) (t ++ y) ≡ order x y
same_fronts [] x y = refl
same_fronts (c ∷ t) x y = ap (λ o. ordering_then o (order (t ++ x) (t ++ y))) (tied_itself nat_cmp_total c) ∙ same_fronts t x y

-- nor does a common tail, for names that are read from the last byte on
pub same_tails : (n : ℕ) (a b : List ℕ) → SharesEnd n a b → order (reverse a) (reverse b) ≡ order (reverse (take (length a - n) a)) (reverse (take (length b - n) b))
same_tails n a b s =
    let t : List ℕ = drop (length a - n) a in
    let a_is : reverse a ≡ reverse t ++ reverse (take (length a - n) a)
    = ap reverse (sym (take-append-drop (length a - n) a)) ∙ reverse-append (take (length a - n) a) t
    in
    let b_is : reverse b ≡ reverse t ++ reverse (take (length b - n) b)
    = ap reverse (sym (take-append-drop (length b - n) b)) ∙ reverse-append (take (length b - n) b) (drop (length b - n) b)
    ∙ ap (λ d. reverse d ++ reverse (take (length b - n) b)) (sym s.2)
    in
    ap (λ x. order x (reverse b)) a_is ∙ ap (order (reverse t ++ reverse (take (length a - n) a))) b_is
    ∙ same_fronts (reverse t) (reverse (take (length a - n) a)) (reverse (take (length b - n) b))

-- lists that tie are the same
pub tied_same : (x y : List ℕ) → order x y ≡ Equal → x ≡ y
tied_same [] [] e = refl
tied_same [] (b ∷ y) e = absurd (cc)
tied_same (a ∷ x) [] e = absurd (cc)
tied_same (a ∷ x) (b ∷ y) e =
    let flips : order (b ∷ y) (a ∷ x) ≡ ordering_reverse (order (a ∷ x) (b ∷ y)) = nat_list_cmp_total.antisymm (b ∷ y) (a ∷ x) in
    let h = heads_equal a b (order x y) (order y x) (ap is_le e) (ap is_le (flips ∙ ap ordering_reverse e)) in
    let tail : x ≡ y = tied_same x y (inner a b (order x y) h.0 e) in
    ap (λ c. c ∷ x) h.0 ∙ ap (λ t. b ∷ t) tail
  where
    inner : (a b : ℕ) (o : Ordering) → a ≡ b → ordering_then (nat_cmp a b) o ≡ Equal → o ≡ Equal
    inner a b o same e = subst (λ (t : Ordering). ordering_then t o ≡ Equal) (equal a b same) e

-- of two names that are not the same, one stands before the other
pub same_or_before : (a b : List ℕ) → is_before b a ≡ false → (a ≡ b → ⊥) → is_before a b ≡ true
same_or_before a b after apart = by (order (reverse a) (reverse b)) refl
  where
    flips : order (reverse b) (reverse a) ≡ ordering_reverse (order (reverse a) (reverse b))
    flips = nat_list_cmp_total.antisymm (reverse b) (reverse a)

    by : (o : Ordering) → order (reverse a) (reverse b) ≡ o → is_lt o ≡ true
    by Less e = refl
    by Equal e = absurd (apart (sym (reverse-reverse a) ∙ ap reverse (tied_same (reverse a) (reverse b) e) ∙ reverse-reverse b))
    by Greater e = absurd (both_ways (is_lt (order (reverse b) (reverse a))) after (ap is_lt (flips ∙ ap ordering_reverse e)))

module _ (names : List (List ℕ)) (up : StrictlyAscends names) where
  -- any name stands before each later one
  pub before_later : (i k : ℕ) → i + k + 1 < length names → is_before (name_at names i) (name_at names (i + k + 1)) ≡ true
  before_later i zero l =
      let next : i + 1 ≡ i + 0 + 1 = omega arith in
      subst (λ (j : ℕ). is_before (name_at names i) (name_at names j) ≡ true) next (up i [] (omega arith))
  before_later i (suc k) l =
      let next : i + k + 1 + 1 ≡ i + suc k + 1 = omega arith in
      let l2 : i + k + 1 + 1 < length names = omega arith in
      let step : order (reverse (name_at names (i + k + 1))) (reverse (name_at names (i + k + 1 + 1))) ≡ Less = less_from _ (up (i + k + 1) [] l2) in
      let far : order (reverse (name_at names i)) (reverse (name_at names (i + k + 1))) ≡ Less = less_from _ (before_later i k (omega arith)) in
      subst (λ (j : ℕ). is_before (name_at names i) (name_at names j) ≡ true) next
      (ap is_lt (nat_list_cmp_total.trans (reverse (name_at names i)) (reverse (name_at names (i + k + 1))) (reverse (name_at names (i + k + 1 + 1))) far step))

  pub earlier : (i j : ℕ) → i < j → j < length names → is_before (name_at names i) (name_at names j) ≡ true
  earlier i j l lj =
      let far : i + (j - i - 1) + 1 ≡ j = omega arith in
      subst (λ (m : ℕ). is_before (name_at names i) (name_at names m) ≡ true) far (before_later i (j - i - 1) (omega arith))

-- what does not come before another one comes at or behind it
behind : (o : Ordering) → is_lt o ≡ false → is_le (ordering_reverse o) ≡ true
behind Less e = absurd (both_ways false refl (sym e))
behind Equal e = refl
behind Greater e = refl

-- what comes at or before another one, and that at or before it, is equal to it
both_before : (o : Ordering) → is_le o ≡ true → is_le (ordering_reverse o) ≡ true → o ≡ Equal
both_before Less e f = absurd (both_ways false refl f)
both_before Equal e f = refl
both_before Greater e f = absurd (both_ways false refl e)

module _ (names : List (List ℕ)) (up : Ascends names) where
  -- a name stands at or before each that is not earlier
  at_or_before : (i j : ℕ) → i ≤ j → j < length names → is_le (order (reverse (name_at names i)) (reverse (name_at names j))) ≡ true
  at_or_before i j l lj =
      ap is_le (nat_list_cmp_total.antisymm (reverse (name_at names i)) (reverse (name_at names j)))
      ∙ behind (order (reverse (name_at names j)) (reverse (name_at names i))) (sorted_far is_before (ranks_by nat_list_cmp_total reverse) names (λ k d low l'. up k d l') i j [] l lj)

  -- a name that ends one that is not later is the same
  pub tail_back : (k i : ℕ) → k ≤ i → i < length names → ends (name_at names i) (name_at names k) ≡ true → name_at names i ≡ name_at names k
  tail_back k i l li e =
      let x : List ℕ = reverse (name_at names i) in
      let y : List ℕ = reverse (name_at names k) in
      let flips : ordering_reverse (order x y) ≡ order y x = sym (nat_list_cmp_total.antisymm y x) in
      let tie : order x y ≡ Equal = both_before (order x y) (before_ended (name_at names i) (name_at names k) e) (ap is_le flips ∙ at_or_before k i l li) in
      sym (reverse-reverse (name_at names i)) ∙ ap reverse (tied_same x y tie) ∙ reverse-reverse (name_at names k)

  -- a name that ends a later one ends each name between them
  pub tail_between : (i j k : ℕ) → i ≤ j → j ≤ k → k < length names → ends (name_at names i) (name_at names k) ≡ true → ends (name_at names i) (name_at names j) ≡ true
  tail_between i j k ij jk l e =
      let h = reversed_begins (name_at names i) (name_at names k) e in
      begins_reversed (name_at names i) (name_at names j)
      (between (reverse (name_at names i)) (reverse (name_at names j)) h.rest (at_or_before i j ij (omega arith))
      (subst (λ (t : List ℕ). is_le (order (reverse (name_at names j)) t) ≡ true) h.is (at_or_before j k jk l)))
