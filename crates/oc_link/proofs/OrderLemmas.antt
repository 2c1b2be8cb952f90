-- Names in order: there is one order of names that differ.
use Rattle.std.proofs.Common.{◌≡◌, ℕ, zero, suc, ◌+◌, ◌<◌, Bool, true, false, cond, ◌||◌, List, [], ◌∷◌, length, get_or, refl, sym, ◌∙◌, ap, subst, arith}
use Rattle.std.specs.{Prelude.{bytes_eq}, List.{AllByRecursion, IsDistinct, list_any}, List.Sorted.{IsSortedBy}, declared.cmp.Ordering.{Ordering}}
use Rattle.std.specs.{declared.cmp.Ordering.TheVariants.{Less, Equal, Greater}, Ordering.{is_eq, is_lt, nat_cmp, ordering_reverse}}
use Rattle.std.specs.Cmp.Lexicographic.{slice_cmp}
use Rattle.std.proofs.lemmas.{Bool.{true≢false}, Cmp.{nat_list_cmp_total}, List.Sorted.{ranks_by, sorted_far}, Map.Text.{is_eq-slice_cmp}}
use Rattle.std.proofs.lemmas.Slice.Eq.{bytes_eq-Decides}
use Rattle.oc_link.specs.Texts.{in_order, put_in_order}

abbrev Name : Type 0
Name = List ℕ

-- two names by their bytes
abbrev by_bytes : Name → Name → Ordering
by_bytes x y = slice_cmp nat_cmp x y

-- a name is below all of these
abbrev IsBelow : Name → List Name → Type 0
IsBelow x xs = AllByRecursion (λ y. by_bytes x y ≡ Less) xs

-- each name is below those after it
abbrev IsStrict : List Name → Type 0
IsStrict [] = Unit {0}
IsStrict (x ∷ xs) = IsBelow x xs × IsStrict xs

-- a name is among these
abbrev has : List Name → Name → Bool
has xs q = list_any (bytes_eq q) xs

-- the order the other way round
turned : (x y : Name) (o : Ordering) → by_bytes y x ≡ o → by_bytes x y ≡ ordering_reverse o
turned x y o e = nat_list_cmp_total.antisymm x y ∙ ap ordering_reverse e

-- a name is not below itself
not_itself : (x : Name) → by_bytes x x ≡ Less → ⊥
not_itself x e = true≢false (ap is_lt (sym e ∙ turned x x Less e))

-- names that tie are one
tied : (x y : Name) → by_bytes x y ≡ Equal → x ≡ y
tied x y e = (bytes_eq-Decides x y).0 (sym (is_eq-slice_cmp x y) ∙ ap is_eq e)

-- a name below all is none of them
below_none : (x : Name) (xs : List Name) → IsBelow x xs → has xs x ≡ false
below_none x [] below = refl
below_none x (y ∷ xs) below = by (below_none x xs below.1) (bytes_eq x y) refl
  where
    by : has xs x ≡ false → (b : Bool) → bytes_eq x y ≡ b → (b || has xs x) ≡ false
    by rest false e = rest
    by rest true e = let same : x ≡ y = (bytes_eq-Decides x y).0 e in absurd (not_itself y (subst (λ z. by_bytes z y ≡ Less) same below.0))

-- one that is among them is above it
below_had : (x q : Name) (xs : List Name) → IsBelow x xs → has xs q ≡ true → by_bytes x q ≡ Less
below_had x q [] below e = absurd (true≢false (sym e))
below_had x q (y ∷ xs) below e = by (below_had x q xs below.1) (bytes_eq q y) refl e
  where
    by : (has xs q ≡ true → by_bytes x q ≡ Less) → (b : Bool) → bytes_eq q y ≡ b → (b || has xs q) ≡ true → by_bytes x q ≡ Less
    by rest true d h = let same : q ≡ y = (bytes_eq-Decides q y).0 d in subst (λ z. by_bytes x z ≡ Less) (sym same) below.0
    by rest false d h = rest h

-- of two names, each of which comes first or after the other, both are one
one_first : (x y : Name) (xs ys : List Name) → IsBelow x xs → IsBelow y ys → has (x ∷ xs) y ≡ true → has (y ∷ ys) x ≡ true → x ≡ y
one_first x y xs ys above below a b = by (bytes_eq y x) (bytes_eq x y) refl refl a b
  where
    by : (s t : Bool) → bytes_eq y x ≡ s → bytes_eq x y ≡ t → (s || has xs y) ≡ true → (t || has ys x) ≡ true → x ≡ y
    by true t d e h k = sym ((bytes_eq-Decides y x).0 d)
    by false true d e h k = (bytes_eq-Decides x y).0 e
    by false false d e h k = absurd (not_itself x (nat_list_cmp_total.trans x y x (below_had x y xs above h) (below_had y x ys below k)))

-- the same names in order are the same list
pub same_order : (xs ys : List Name) → IsStrict xs → IsStrict ys → ((q : Name) → has xs q ≡ has ys q) → xs ≡ ys
same_order [] [] a b same = refl
same_order [] (y ∷ ys) a b same = absurd (true≢false (sym (same y ∙ ap (λ t. t || has ys y) ((bytes_eq-Decides y y).1 refl))))
same_order (x ∷ xs) [] a b same = absurd (true≢false (sym (sym (same x) ∙ ap (λ t. t || has xs x) ((bytes_eq-Decides x x).1 refl))))
same_order (x ∷ xs) (y ∷ ys) a b same =
    let first : x ≡ y = one_first x y xs ys a.0 b.0 (same y ∙ ap (λ t. t || has ys y) ((bytes_eq-Decides y y).1 refl)) (sym (same x) ∙ ap (λ t. t || has xs x) ((bytes_eq-Decides x x).1 refl)) in
    ap (λ z. z ∷ xs) first ∙ ap (λ zs. y ∷ zs) (same_order xs ys a.1 b.1 (λ q. by q first (bytes_eq q x) refl (same q)))
  where
    by : (q : Name) → x ≡ y → (t : Bool) → bytes_eq q x ≡ t → (bytes_eq q x || has xs q) ≡ (bytes_eq q y || has ys q) → has xs q ≡ has ys q
    by q first true d e =
        let is : q ≡ x = (bytes_eq-Decides q x).0 d in
        subst (λ z. has xs z ≡ false) (sym is) (below_none x xs a.0) ∙ sym (subst (λ z. has ys z ≡ false) (sym (is ∙ first)) (below_none y ys b.0))
    by q first false d e =
        let other : bytes_eq q y ≡ false = subst (λ z. bytes_eq q z ≡ false) first d in
        sym (ap (λ t. t || has xs q) d) ∙ e ∙ ap (λ t. t || has ys q) other

-- ... names that are put in order

all_put : (P : Name → Type 0) (x : Name) (xs : List Name) → P x → AllByRecursion P xs → AllByRecursion P (put_in_order x xs)
all_put P x [] p all = (p, tt)
all_put P x (y ∷ xs) p all = by (all_put P x xs p all.1) (is_lt (by_bytes y x))
  where
    by : AllByRecursion P (put_in_order x xs) → (b : Bool) → AllByRecursion P (cond b (y ∷ put_in_order x xs) (x ∷ y ∷ xs))
    by rest true = (all.0, rest)
    by rest false = (p, all)

has_put : (x : Name) (xs : List Name) (q : Name) → has (put_in_order x xs) q ≡ (bytes_eq q x || has xs q)
has_put x [] q = refl
has_put x (y ∷ xs) q = by (has_put x xs q) (is_lt (by_bytes y x))
  where
    swapped : (a b c : Bool) → (a || (b || c)) ≡ (b || (a || c))
    swapped true true c = refl
    swapped true false c = refl
    swapped false b c = refl

    by : has (put_in_order x xs) q ≡ (bytes_eq q x || has xs q) → (b : Bool) → has (cond b (y ∷ put_in_order x xs) (x ∷ y ∷ xs)) q ≡ (bytes_eq q x || has (y ∷ xs) q)
    by rest true = ap (λ t. bytes_eq q y || t) rest ∙ swapped (bytes_eq q y) (bytes_eq q x) (has xs q)
    by rest false = refl

weaker : (x y : Name) (zs : List Name) → by_bytes x y ≡ Less → IsBelow y zs → IsBelow x zs
weaker x y [] less below = tt
weaker x y (z ∷ zs) less below = (nat_list_cmp_total.trans x y z less below.0, weaker x y zs less below.1)

strict_put : (x : Name) (xs : List Name) → has xs x ≡ false → IsStrict xs → IsStrict (put_in_order x xs)
strict_put x [] none strict = (tt, tt)
strict_put x (y ∷ xs) none strict = by (λ h. strict_put x xs h strict.1) (by_bytes y x) refl (bytes_eq x y) refl none
  where
    by : (has xs x ≡ false → IsStrict (put_in_order x xs)) → (o : Ordering) → by_bytes y x ≡ o → (b : Bool) → bytes_eq x y ≡ b → (b || has xs x) ≡ false → IsStrict (cond (is_lt o) (y ∷ put_in_order x xs) (x ∷ y ∷ xs))
    by rest o e true d h = absurd (true≢false h)
    by rest Less e false d h = (all_put (λ z. by_bytes y z ≡ Less) x xs e strict.0, rest h)
    by rest Equal e false d h = absurd (true≢false (sym ((bytes_eq-Decides x y).1 (sym (tied y x e))) ∙ d))
    by rest Greater e false d h = let less : by_bytes x y ≡ Less = turned x y Greater e in ((less, weaker x y xs less strict.0), strict)

-- a name that differs from each is none of them
none_of : (x : Name) (xs : List Name) → AllByRecursion (λ y. bytes_eq x y ≡ false) xs → has xs x ≡ false
none_of x [] all = refl
none_of x (y ∷ xs) all = ap (λ t. t || has xs x) all.0 ∙ none_of x xs all.1

pub has-in_order : (xs : List Name) (q : Name) → has (in_order xs) q ≡ has xs q
has-in_order [] q = refl
has-in_order (x ∷ xs) q = has_put x (in_order xs) q ∙ ap (λ t. bytes_eq q x || t) (has-in_order xs q)

pub strict-in_order : (xs : List Name) → IsDistinct bytes_eq xs → IsStrict (in_order xs)
unfolding IsDistinct
strict-in_order [] distinct = tt
strict-in_order (x ∷ xs) distinct = strict_put x (in_order xs) (has-in_order xs x ∙ none_of x xs distinct.0) (strict-in_order xs distinct.1)

-- ... names that a sort put in order

each_by : (P : Name → Type 0) (xs : List Name) → ((j : ℕ) → j < length xs → P (get_or xs j [])) → AllByRecursion P xs
each_by P [] all = tt
each_by P (x ∷ xs) all = (all 0 (omega arith), each_by P xs (λ j l. all (suc j) (omega (arith, l))))

pub strict_sorted : (xs : List Name) → IsSortedBy (λ a b. is_lt (by_bytes a b)) xs → IsDistinct bytes_eq xs → IsStrict xs
unfolding IsDistinct
strict_sorted [] sorted distinct = tt
strict_sorted (x ∷ xs) sorted distinct = (
  each_by (λ y. by_bytes x y ≡ Less) xs (λ j l.
      let y : Name = get_or xs j [] in
      let far : is_lt (by_bytes y x) ≡ false = sorted_far (λ a b. is_lt (by_bytes a b)) (ranks_by nat_list_cmp_total (λ (z : Name). z)) (x ∷ xs) sorted 0 (suc j) [] (omega arith) (omega (arith, l)) in
      above x y (by_bytes y x) refl far (differs xs distinct.0 j l)),
  strict_sorted xs (λ k d low l. let e : suc k + 1 ≡ suc (k + 1) = omega arith in subst (λ i. is_lt (by_bytes (get_or (x ∷ xs) i d) (get_or xs k d)) ≡ false) e (sorted (suc k) d (omega arith) (omega (arith, l)))) distinct.1,
)
  where
    differs : (ys : List Name) → AllByRecursion (λ y. bytes_eq x y ≡ false) ys → (j : ℕ) → j < length ys → bytes_eq x (get_or ys j []) ≡ false
    differs [] all j l = absurd (omega (arith, l))
    differs (y ∷ ys) all zero l = all.0
    differs (y ∷ ys) all (suc j) l = differs ys all.1 j (omega (arith, l))

    above : (x y : Name) (o : Ordering) → by_bytes y x ≡ o → is_lt o ≡ false → bytes_eq x y ≡ false → by_bytes x y ≡ Less
    above x y Less e far other = absurd (true≢false far)
    above x y Equal e far other = absurd (true≢false (sym ((bytes_eq-Decides x y).1 (sym (tied y x e))) ∙ other))
    above x y Greater e far other = turned x y Greater e
