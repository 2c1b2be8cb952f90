-- Members of lists by their places.
use Rattle.std.proofs.Common.{◌≡◌, ℕ, zero, suc, ◌+◌, ◌<◌, ◌≤◌, Bool, true, false, List, [], ◌∷◌, ◌++◌, length, map, Option, Some, None, refl, sym, ◌∙◌, ap, subst, inl, inr, arith, cond}
use Rattle.std.specs.Prelude.{◌⊎◌, slice_get, flat_map, filter_map, find}
use Rattle.std.specs.{List.{enumerate_from, cons_option, list_any, position_or_len, filter, AllByRecursion}, Option.{option_map}}
use Rattle.std.proofs.lemmas.{Bool.{cases_lt}, Option.{none-some, same_Some}}

pub member_first : {X : Type 0} (xs ys : List X) (k : ℕ) (x : X) → slice_get xs k ≡ Some x → slice_get (xs ++ ys) k ≡ Some x
member_first [] ys k x here = absurd (none-some x here)
member_first (y ∷ xs) ys zero x here = here
member_first (y ∷ xs) ys (suc k) x here = member_first xs ys k x here

pub member_second : {X : Type 0} (xs ys : List X) (k : ℕ) (x : X) → slice_get ys k ≡ Some x → slice_get (xs ++ ys) (length xs + k) ≡ Some x
member_second [] ys k x here = let e : 0 + k ≡ k = omega arith in ap (slice_get ys) e ∙ here
member_second (y ∷ xs) ys k x here = let e : length (y ∷ xs) + k ≡ suc (length xs + k) = omega arith in ap (slice_get (y ∷ xs ++ ys)) e ∙ member_second xs ys k x here

pub each_append : {X : Type 0} (P : X → Type 0) (xs ys : List X) → ((k : ℕ) (x : X) → slice_get xs k ≡ Some x → P x) → ((k : ℕ) (x : X) → slice_get ys k ≡ Some x → P x)
    → (k : ℕ) (x : X) → slice_get (xs ++ ys) k ≡ Some x → P x
each_append P [] ys first second k x here = second k x here
each_append P (y ∷ xs) ys first second zero x here = first zero x here
each_append P (y ∷ xs) ys first second (suc k) x here = each_append P xs ys (λ j z h. first (suc j) z h) second k x here

pub each_flat_map : {X Y : Type 0} (P : Y → Type 0) (f : X → List Y) (xs : List X) → ((j : ℕ) (x : X) → slice_get xs j ≡ Some x → (k : ℕ) (y : Y) → slice_get (f x) k ≡ Some y → P y)
    → (k : ℕ) (y : Y) → slice_get (flat_map f xs) k ≡ Some y → P y
each_flat_map P f [] each k y here = absurd (none-some y here)
each_flat_map P f (x ∷ xs) each k y here = each_append P (f x) (flat_map f xs) (each 0 x refl) (each_flat_map P f xs (λ j z h. each (suc j) z h)) k y here

pub each_map : {X Y : Type 0} (P : Y → Type 0) (f : X → Y) (xs : List X) → ((j : ℕ) (x : X) → slice_get xs j ≡ Some x → P (f x)) → (k : ℕ) (y : Y) → slice_get (map f xs) k ≡ Some y → P y
each_map P f [] each k y here = absurd (none-some y here)
each_map P f (x ∷ xs) each zero y here = subst P (same_Some (f x) y here) (each 0 x refl)
each_map P f (x ∷ xs) each (suc k) y here = each_map P f xs (λ j z h. each (suc j) z h) k y here

pub each_filter_map : {X Y : Type 0} (P : Y → Type 0) (f : X → Option Y) (xs : List X) → ((j : ℕ) (x : X) → slice_get xs j ≡ Some x → (y : Y) → f x ≡ Some y → P y)
    → (k : ℕ) (y : Y) → slice_get (filter_map f xs) k ≡ Some y → P y
each_filter_map P f [] each k y here = absurd (none-some y here)
each_filter_map {X} {Y} P f (x ∷ xs) each k y here = by (f x) (each 0 x refl) (λ i h. each_filter_map P f xs (λ j z e. each (suc j) z e) i y h) k here
  where
    by : (o : Option Y) → ((z : Y) → o ≡ Some z → P z) → ((i : ℕ) → slice_get (filter_map f xs) i ≡ Some y → P y) → (k : ℕ) → slice_get (cons_option o (filter_map f xs)) k ≡ Some y → P y
    by None own rest k h = rest k h
    by (Some z) own rest zero h = subst P (same_Some z y h) (own z refl)
    by (Some z) own rest (suc k) h = rest k h

-- the members of an enumerated list
pub each_enumerated : {X : Type 0} (P : ℕ × X → Type 0) (i : ℕ) (xs : List X) → ((j : ℕ) (x : X) → slice_get xs j ≡ Some x → P (i + j, x))
    → (k : ℕ) (y : ℕ × X) → slice_get (enumerate_from i xs) k ≡ Some y → P y
each_enumerated P i [] each k y here = absurd (none-some y here)
each_enumerated P i (x ∷ xs) each zero y here =
    let e : i + 0 ≡ i = omega arith in
    subst P (same_Some (i, x) y here) (subst (λ n. P (n, x)) e (each 0 x refl))
each_enumerated P i (x ∷ xs) each (suc k) y here = each_enumerated P (i + 1) xs (λ j z h.
    let e : i + suc j ≡ i + 1 + j = omega arith in subst (λ n. P (n, z)) e (each (suc j) z h)) k y here

pub member_enumerated : {X : Type 0} (i : ℕ) (xs : List X) (k : ℕ) (x : X) → slice_get xs k ≡ Some x → slice_get (enumerate_from i xs) k ≡ Some (i + k, x)
member_enumerated i [] k x here = absurd (none-some x here)
member_enumerated i (y ∷ xs) zero x here = let e : i ≡ i + 0 = omega arith in ap (λ z. Some (i, z)) (same_Some y x here) ∙ ap (λ n. Some (n, x)) e
member_enumerated i (y ∷ xs) (suc k) x here = let e : i + 1 + k ≡ i + suc k = omega arith in member_enumerated (i + 1) xs k x here ∙ ap (λ n. Some (n, x)) e

-- a member of a filtered list
pub member_filter_map : {X Y : Type 0} (f : X → Option Y) (xs : List X) (k : ℕ) (x : X) (y : Y) → slice_get xs k ≡ Some x → f x ≡ Some y
    → (j : ℕ) × (slice_get (filter_map f xs) j ≡ Some y)
member_filter_map f [] k x y here is = absurd (none-some x here)
member_filter_map f (z ∷ xs) zero x y here is = (0, ap (λ o. slice_get (cons_option o (filter_map f xs)) 0) (ap f (same_Some z x here) ∙ is))
member_filter_map {X} {Y} f (z ∷ xs) (suc k) x y here is = by (f z) (member_filter_map f xs k x y here is)
  where
    by : (o : Option Y) → (j : ℕ) × (slice_get (filter_map f xs) j ≡ Some y) → (j : ℕ) × (slice_get (cons_option o (filter_map f xs)) j ≡ Some y)
    by None m = m
    by (Some u) m = (suc m.0, m.1)

pub member_flat_map : {X Y : Type 0} (f : X → List Y) (xs : List X) (k j : ℕ) (x : X) (y : Y) → slice_get xs k ≡ Some x → slice_get (f x) j ≡ Some y
    → (i : ℕ) × (slice_get (flat_map f xs) i ≡ Some y)
member_flat_map f [] k j x y here there = absurd (none-some x here)
member_flat_map f (z ∷ xs) zero j x y here there =
    (j, member_first (f z) (flat_map f xs) j y (ap (λ u. slice_get (f u) j) (same_Some z x here) ∙ there))
member_flat_map f (z ∷ xs) (suc k) j x y here there =
    let m = member_flat_map f xs k j x y here there in (length (f z) + m.0, member_second (f z) (flat_map f xs) m.0 y m.1)

-- the same of the results
pub filter_map-results : {X Y Z : Type 0} (f : X → Option Y) (g : X → Option Z) (h : Z → Y) (xs : List X) → ((k : ℕ) (x : X) → slice_get xs k ≡ Some x → f x ≡ option_map h (g x))
    → filter_map f xs ≡ map h (filter_map g xs)
filter_map-results f g h [] same = refl
filter_map-results {X} {Y} {Z} f g h (x ∷ xs) same =
    ap (λ o. cons_option o (filter_map f xs)) (same 0 x refl) ∙ by (g x) (filter_map-results f g h xs (λ k y e. same (suc k) y e))
  where
    by : (o : Option Z) → filter_map f xs ≡ map h (filter_map g xs) → cons_option (option_map h o) (filter_map f xs) ≡ map h (cons_option o (filter_map g xs))
    by None rest = rest
    by (Some z) rest = ap (λ ys. h z ∷ ys) rest

-- two maps that agree on each member
pub map-alike : {X Y : Type 0} (f g : X → Y) (xs : List X) → ((k : ℕ) (x : X) → slice_get xs k ≡ Some x → f x ≡ g x) → map f xs ≡ map g xs
map-alike f g [] same = refl
map-alike f g (x ∷ xs) same = ap (λ y. y ∷ map f xs) (same 0 x refl) ∙ ap (λ ys. g x ∷ ys) (map-alike f g xs (λ k y h. same (suc k) y h))

-- a map after a map
pub map-map : {X Y Z : Type 0} (f : Y → Z) (g : X → Y) (xs : List X) → map f (map g xs) ≡ map (λ x. f (g x)) xs
map-map f g [] = refl
map-map f g (x ∷ xs) = ap (λ ys. f (g x) ∷ ys) (map-map f g xs)

-- the first member that passes a test, where those before do not
pub find_first : {X : Type 0} (test : X → Bool) (xs : List X) (k : ℕ) (x : X) → slice_get xs k ≡ Some x → test x ≡ true
    → ((j : ℕ) (y : X) → j < k → slice_get xs j ≡ Some y → test y ≡ false) → find test xs ≡ Some x
find_first test [] k x here passes first = absurd (none-some x here)
find_first test (y ∷ xs) zero x here passes first = let own : test y ≡ true = ap test (same_Some y x here) ∙ passes in rw own here
find_first test (y ∷ xs) (suc k) x here passes first =
    rw (first 0 y (omega arith) refl) (find_first test xs k x here passes (λ j z l h. first (suc j) z (omega (arith, l)) h))

-- no member passes a test
pub none_passes : {X : Type 0} (test : X → Bool) (xs : List X) → ((k : ℕ) (x : X) → slice_get xs k ≡ Some x → test x ≡ false) → list_any test xs ≡ false
none_passes test [] none = refl
none_passes test (x ∷ xs) none = rw (none 0 x refl) (none_passes test xs (λ k y h. none (suc k) y h))

-- a member of a mapped list
pub member_map : {X Y : Type 0} (f : X → Y) (xs : List X) (k : ℕ) (x : X) → slice_get xs k ≡ Some x → slice_get (map f xs) k ≡ Some (f x)
member_map f [] k x here = absurd (none-some x here)
member_map f (y ∷ xs) zero x here = ap (λ z. Some (f z)) (same_Some y x here)
member_map f (y ∷ xs) (suc k) x here = member_map f xs k x here

-- where a member of a mapped list comes from
pub of_map : {X Y : Type 0} (f : X → Y) (xs : List X) (k : ℕ) (y : Y) → slice_get (map f xs) k ≡ Some y → (x : X) × (slice_get xs k ≡ Some x) × (f x ≡ y)
of_map f [] k y here = absurd (none-some y here)
of_map f (x ∷ xs) zero y here = (x, refl, same_Some (f x) y here)
of_map f (x ∷ xs) (suc k) y here = of_map f xs k y here

-- of two lists that follow one another
pub of_append : {X : Type 0} (xs ys : List X) (k : ℕ) (x : X) → slice_get (xs ++ ys) k ≡ Some x
    → (slice_get xs k ≡ Some x) ⊎ ((j : ℕ) × (k ≡ length xs + j) × (slice_get ys j ≡ Some x))
of_append [] ys k x here = inr (k, omega arith, here)
of_append (y ∷ xs) ys zero x here = inl here
of_append (y ∷ xs) ys (suc k) x here = elim (of_append xs ys k x here) [
  | inl h ↦ inl h
  | inr r ↦ let e = r.1 in inr (r.0, omega (arith, e), r.2)
]

-- what a filter leaves of an enumerated list ascends by the numbers
pub keyed_from : {X Y : Type 0} (f : ℕ × X → Option Y) (key : Y → ℕ) → ((j : ℕ) (x : X) (y : Y) → f (j, x) ≡ Some y → key y ≡ j)
    → (i : ℕ) (xs : List X) (k : ℕ) (y : Y) → slice_get (filter_map f (enumerate_from i xs)) k ≡ Some y → i ≤ key y
keyed_from f key keyed i [] k y here = absurd (none-some y here)
keyed_from {X} {Y} f key keyed i (x ∷ xs) k y here = by (f (i, x)) refl (λ j h. keyed_from f key keyed (i + 1) xs j y h) k here
  where
    by : (o : Option Y) → f (i, x) ≡ o → ((j : ℕ) → slice_get (filter_map f (enumerate_from (i + 1) xs)) j ≡ Some y → i + 1 ≤ key y)
        → (k : ℕ) → slice_get (cons_option o (filter_map f (enumerate_from (i + 1) xs))) k ≡ Some y → i ≤ key y
    by None e rest k h = omega (arith, rest k h)
    by (Some z) e rest zero h = let own : key y ≡ i = ap key (sym (same_Some z y h)) ∙ keyed i x z e in omega (arith, own)
    by (Some z) e rest (suc k) h = omega (arith, rest k h)

pub keyed_ascends : {X Y : Type 0} (f : ℕ × X → Option Y) (key : Y → ℕ) → ((j : ℕ) (x : X) (y : Y) → f (j, x) ≡ Some y → key y ≡ j)
    → (i : ℕ) (xs : List X) (a b : ℕ) (y z : Y) → a < b → slice_get (filter_map f (enumerate_from i xs)) a ≡ Some y → slice_get (filter_map f (enumerate_from i xs)) b ≡ Some z → key y < key z
keyed_ascends f key keyed i [] a b y z l here there = absurd (none-some y here)
keyed_ascends {X} {Y} f key keyed i (x ∷ xs) a b y z l here there =
    by (f (i, x)) refl (λ c d m h t. keyed_ascends f key keyed (i + 1) xs c d y z m h t) (λ d t. keyed_from f key keyed (i + 1) xs d z t) a b l here there
  where
    by : (o : Option Y) → f (i, x) ≡ o
        → ((c d : ℕ) → c < d → slice_get (filter_map f (enumerate_from (i + 1) xs)) c ≡ Some y → slice_get (filter_map f (enumerate_from (i + 1) xs)) d ≡ Some z → key y < key z)
        → ((d : ℕ) → slice_get (filter_map f (enumerate_from (i + 1) xs)) d ≡ Some z → i + 1 ≤ key z)
        → (a b : ℕ) → a < b → slice_get (cons_option o (filter_map f (enumerate_from (i + 1) xs))) a ≡ Some y → slice_get (cons_option o (filter_map f (enumerate_from (i + 1) xs))) b ≡ Some z → key y < key z
    by None e rest low a b l h t = rest a b l h t
    by (Some u) e rest low a zero l h t = absurd (omega (arith, l))
    by (Some u) e rest low zero (suc b) l h t = let own : key y ≡ i = ap key (sym (same_Some u y h)) ∙ keyed i x u e in omega (arith, own, low b t)
    by (Some u) e rest low (suc a) (suc b) l h t = rest a b (omega (arith, l)) h t

-- so a number stands in it once
pub keyed_once : {X Y : Type 0} (f : ℕ × X → Option Y) (key : Y → ℕ) → ((j : ℕ) (x : X) (y : Y) → f (j, x) ≡ Some y → key y ≡ j)
    → (i : ℕ) (xs : List X) (a b : ℕ) (y z : Y) → slice_get (filter_map f (enumerate_from i xs)) a ≡ Some y → slice_get (filter_map f (enumerate_from i xs)) b ≡ Some z → key y ≡ key z → a ≡ b
keyed_once f key keyed i xs a b y z here there same = elim (cases_lt a b) [
  | inl l ↦ absurd (omega (arith, keyed_ascends f key keyed i xs a b y z l here there, same))
  | inr ge ↦ elim (cases_lt b a) [
    | inl l ↦ absurd (omega (arith, keyed_ascends f key keyed i xs b a z y l there here, same))
    | inr le ↦ omega (arith, ge, le)
  ]
]

-- a filter after a map
pub filter_map-map : {X Y Z : Type 0} (f : Y → Option Z) (g : X → Y) (xs : List X) → filter_map f (map g xs) ≡ filter_map (λ x. f (g x)) xs
filter_map-map f g [] = refl
filter_map-map f g (x ∷ xs) = ap (cons_option (f (g x))) (filter_map-map f g xs)

-- where a member of a filtered list comes from
pub of_filter_map : {X Y : Type 0} (f : X → Option Y) (xs : List X) (k : ℕ) (y : Y) → slice_get (filter_map f xs) k ≡ Some y → (j : ℕ) × (x : X) × (slice_get xs j ≡ Some x) × (f x ≡ Some y)
of_filter_map f [] k y here = absurd (none-some y here)
of_filter_map {X} {Y} f (x ∷ xs) k y here = by (f x) refl (λ i h. of_filter_map f xs i y h) k here
  where
    by : (o : Option Y) → f x ≡ o → ((i : ℕ) → slice_get (filter_map f xs) i ≡ Some y → (j : ℕ) × (z : X) × (slice_get xs j ≡ Some z) × (f z ≡ Some y))
        → (k : ℕ) → slice_get (cons_option o (filter_map f xs)) k ≡ Some y → (j : ℕ) × (z : X) × (slice_get (x ∷ xs) j ≡ Some z) × (f z ≡ Some y)
    by None e rest k h = let r = rest k h in (suc r.0, r.1, r.2, r.3)
    by (Some z) e rest zero h = (0, x, refl, e ∙ h)
    by (Some z) e rest (suc k) h = let r = rest k h in (suc r.0, r.1, r.2, r.3)

-- the first place that passes a test
pub position_first : {X : Type 0} (test : X → Bool) (xs : List X) (k : ℕ) (x : X) → slice_get xs k ≡ Some x → test x ≡ true
    → ((j : ℕ) (y : X) → j < k → slice_get xs j ≡ Some y → test y ≡ false) → position_or_len test xs ≡ k
position_first test [] k x here passes first = absurd (none-some x here)
position_first test (y ∷ xs) zero x here passes first = let own : test y ≡ true = ap test (same_Some y x here) ∙ passes in rw own refl
position_first test (y ∷ xs) (suc k) x here passes first =
    let later : position_or_len test xs ≡ k = position_first test xs k x here passes (λ j z l h. first (suc j) z (omega (arith, l)) h) in
    let e : 1 + k ≡ suc k = omega arith in
    rw (first 0 y (omega arith) refl, later) e

-- where a member of an enumerated list comes from
pub of_enumerated : {X : Type 0} (i : ℕ) (xs : List X) (k : ℕ) (y : ℕ × X) → slice_get (enumerate_from i xs) k ≡ Some y → (y.0 ≡ i + k) × (slice_get xs k ≡ Some y.1)
of_enumerated i [] k y here = absurd (none-some y here)
of_enumerated {X} i (x ∷ xs) zero y here = (ap (λ (z : ℕ × X). z.0) (sym (same_Some (i, x) y here)) ∙ omega arith, ap (λ (z : ℕ × X). Some z.1) (same_Some (i, x) y here))
of_enumerated i (x ∷ xs) (suc k) y here = let r = of_enumerated (i + 1) xs k y here in (r.0 ∙ omega arith, r.1)

-- members of a filtered list
pub of_filter : {X : Type 0} (test : X → Bool) (xs : List X) (k : ℕ) (x : X) → slice_get (filter test xs) k ≡ Some x → (j : ℕ) × (slice_get xs j ≡ Some x) × (test x ≡ true)
of_filter test [] k x here = absurd (none-some x here)
of_filter {X} test (y ∷ xs) k x here = by (test y) refl (λ j h. of_filter test xs j x h) k here
  where
    by : (b : Bool) → test y ≡ b → ((j : ℕ) → slice_get (filter test xs) j ≡ Some x → (i : ℕ) × (slice_get xs i ≡ Some x) × (test x ≡ true))
        → (k : ℕ) → slice_get (cond b (y ∷ filter test xs) (filter test xs)) k ≡ Some x → (i : ℕ) × (slice_get (y ∷ xs) i ≡ Some x) × (test x ≡ true)
    by true e rest zero h = (0, h, ap test (sym (same_Some y x h)) ∙ e)
    by true e rest (suc k) h = let r = rest k h in (suc r.0, r.1, r.2)
    by false e rest k h = let r = rest k h in (suc r.0, r.1, r.2)

pub member_filter : {X : Type 0} (test : X → Bool) (xs : List X) (k : ℕ) (x : X) → slice_get xs k ≡ Some x → test x ≡ true → (j : ℕ) × (slice_get (filter test xs) j ≡ Some x)
member_filter test [] k x here passes = absurd (none-some x here)
member_filter test (y ∷ xs) zero x here passes =
    let own : test y ≡ true = ap test (same_Some y x here) ∙ passes in
    (0, ap (λ b. slice_get (cond b (y ∷ filter test xs) (filter test xs)) 0) own ∙ here)
member_filter {X} test (y ∷ xs) (suc k) x here passes = by (test y) (member_filter test xs k x here passes)
  where
    by : (b : Bool) → (j : ℕ) × (slice_get (filter test xs) j ≡ Some x) → (j : ℕ) × (slice_get (cond b (y ∷ filter test xs) (filter test xs)) j ≡ Some x)
    by true m = (suc m.0, m.1)
    by false m = m

-- what holds of each member holds of all
pub all_members : {X : Type 0} (P : X → Type 0) (xs : List X) → ((i : ℕ) (x : X) → slice_get xs i ≡ Some x → P x) → AllByRecursion P xs
all_members P [] each = tt
all_members P (x ∷ xs) each = (each 0 x refl, all_members P xs (λ i y h. each (suc i) y h))
