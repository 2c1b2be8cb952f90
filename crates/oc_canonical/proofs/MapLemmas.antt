-- Lists whose items are changed: what is found in them, and the parts of files.
use Rattle.std.proofs.Common.{◌≡◌, ℕ, zero, suc, ◌+◌, ◌-◌, Bool, true, false, cond, List, [], ◌∷◌, ◌++◌, length, map, Some, refl, sym, ◌∙◌, ap, arith}
use Rattle.std.specs.{Prelude.{slice_get, slice_index_or, filter, flat_map, find, replicate}, List.{enumerate_from, list_any}, Option.{option_map_or}}
use Rattle.std.proofs.lemmas.Bool.{true≢false}
use Rattle.oc_shelf.specs.Writing.Parts.{Laid, laid, laid_end, joined, place_where}

-- ... numbered lists

pub enumerate_map : {X Y : Type 0} (f : ℕ × X → Y) (i : ℕ) (xs : List X) → enumerate_from i (map f (enumerate_from i xs)) ≡ map (λ (x : ℕ × X). (x.0, f x)) (enumerate_from i xs)
enumerate_map f i [] = refl
enumerate_map f i (x ∷ xs) = ap (λ ys. (i, f (i, x)) ∷ ys) (enumerate_map f (i + 1) xs)

-- ... filters

pub filter-append : {X : Type 0} (test : X → Bool) (xs ys : List X) → filter test (xs ++ ys) ≡ filter test xs ++ filter test ys
filter-append test [] ys = refl
filter-append test (x ∷ xs) ys = by (test x) (filter-append test xs ys)
  where
    by : (b : Bool) → filter test (xs ++ ys) ≡ filter test xs ++ filter test ys
        → cond b (x ∷ filter test (xs ++ ys)) (filter test (xs ++ ys)) ≡ cond b (x ∷ filter test xs) (filter test xs) ++ filter test ys
    by true e = ap (λ zs. x ∷ zs) e
    by false e = e

pub filter-mapped : {X Y : Type 0} (f : X → Y) (test : X → Bool) (tests : Y → Bool) (xs : List X) → ((k : ℕ) (x : X) → slice_get xs k ≡ Some x → tests (f x) ≡ test x)
    → filter tests (map f xs) ≡ map f (filter test xs)
filter-mapped f test tests [] same = refl
filter-mapped f test tests (x ∷ xs) same =
    ap (λ b. cond b (f x ∷ filter tests (map f xs)) (filter tests (map f xs))) (same 0 x refl) ∙ by (test x) (filter-mapped f test tests xs (λ k y h. same (suc k) y h))
  where
    by : (b : Bool) → filter tests (map f xs) ≡ map f (filter test xs) → cond b (f x ∷ filter tests (map f xs)) (filter tests (map f xs)) ≡ map f (cond b (x ∷ filter test xs) (filter test xs))
    by b e = grind arith

pub filter-within : {X : Type 0} (test u : X → Bool) (xs : List X) → ((x : X) → test x ≡ true → u x ≡ true) → filter test (filter u xs) ≡ filter test xs
filter-within test u [] within = refl
filter-within test u (x ∷ xs) within = by (test x) (u x) refl refl (filter-within test u xs within)
  where
    by : (a b : Bool) → test x ≡ a → u x ≡ b → filter test (filter u xs) ≡ filter test xs
        → filter test (cond b (x ∷ filter u xs) (filter u xs)) ≡ cond a (x ∷ filter test xs) (filter test xs)
    by true true s t e = ap (λ c. cond c (x ∷ filter test (filter u xs)) (filter test (filter u xs))) s ∙ ap (λ ys. x ∷ ys) e
    by true false s t e = absurd (true≢false (sym (within x s) ∙ t))
    by false true s t e = ap (λ c. cond c (x ∷ filter test (filter u xs)) (filter test (filter u xs))) s ∙ e
    by false false s t e = e

pub filter-apart : {X : Type 0} (test u : X → Bool) (xs : List X) → ((x : X) → u x ≡ true → test x ≡ false) → filter test (filter u xs) ≡ []
filter-apart test u [] apart = refl
filter-apart test u (x ∷ xs) apart = by (u x) refl (filter-apart test u xs apart)
  where
    by : (b : Bool) → u x ≡ b → filter test (filter u xs) ≡ [] → filter test (cond b (x ∷ filter u xs) (filter u xs)) ≡ []
    by b t e = grind arith

-- a test that some item passes, by the items that pass it
abbrev pub is_filled : {X : Type 0} → List X → Bool
is_filled [] = false
is_filled (x ∷ xs) = true

pub filled_map : {X Y : Type 0} (f : X → Y) (xs : List X) → is_filled (map f xs) ≡ is_filled xs
filled_map f xs = grind arith

pub any_filled : {X : Type 0} (test : X → Bool) (i : ℕ) (xs : List X) → list_any test xs ≡ is_filled (filter (λ (x : ℕ × X). test x.1) (enumerate_from i xs))
any_filled test i [] = refl
any_filled {X} test i (x ∷ xs) = elim (test x) as (λ b. test x ≡ b → list_any test (x ∷ xs) ≡ is_filled (cond b ((i, x) ∷ filter (λ (y : ℕ × X). test y.1) (enumerate_from (i + 1) xs)) (filter (λ (y : ℕ × X). test y.1) (enumerate_from (i + 1) xs)))) [
  | true ↦ λ e. rw e refl
  | false ↦ λ e. rw e (any_filled test (i + 1) xs)
] refl

-- ... parts of files

-- a part that is changed, at its place
abbrev pub laid_as : {X Y : Type 0} → (X → Y) → Laid X → Laid Y
laid_as f l = record { at = l.at; part = f l.part }

abbrev placed : {X : Type 0} → ℕ → X → Laid X
placed at x = record { at = at; part = x }

pub laid_map : {X Y : Type 0} (f : X → Y) (begin : ℕ → X → ℕ) (begins : ℕ → Y → ℕ) (size : X → ℕ) (sizes : Y → ℕ) (at : ℕ) (xs : List X)
    → ((k : ℕ) (x : X) → slice_get xs k ≡ Some x → (p : ℕ) → begins p (f x) ≡ begin p x) → ((k : ℕ) (x : X) → slice_get xs k ≡ Some x → sizes (f x) ≡ size x)
    → laid begins sizes at (map f xs) ≡ map (laid_as f) (laid begin size at xs)
laid_map f begin begins size sizes at [] same long = refl
laid_map {X} {Y} f begin begins size sizes at (x ∷ xs) same long =
    ap (λ (p : ℕ). placed {X = Y} p (f x) ∷ laid begins sizes (p + sizes (f x)) (map f xs)) (same 0 x refl at)
    ∙ ap (λ (k : ℕ). placed {X = Y} (begin at x) (f x) ∷ laid begins sizes (begin at x + k) (map f xs)) (long 0 x refl)
    ∙ ap (λ ls. placed {X = Y} (begin at x) (f x) ∷ ls) (laid_map f begin begins size sizes (begin at x + size x) xs (λ k y h. same (suc k) y h) (λ k y h. long (suc k) y h))

pub place_map : {X Y : Type 0} (f : X → Y) (test : X → Bool) (tests : Y → Bool) (ls : List (Laid X)) → ((x : X) → tests (f x) ≡ test x)
    → place_where tests (map (laid_as f) ls) ≡ place_where test ls
place_map f test tests [] same = refl
place_map {X} {Y} f test tests (l ∷ ls) same =
    ap (λ b. option_map_or (λ (m : Laid Y). m.at) (cond b (Some (laid_as f l)) (find (λ (m : Laid Y). tests m.part) (map (laid_as f) ls))) 0) (same l.part)
    ∙ by (test l.part) (place_map f test tests ls same)
  where
    by : (b : Bool) → place_where tests (map (laid_as f) ls) ≡ place_where test ls
        → option_map_or (λ (m : Laid Y). m.at) (cond b (Some (laid_as f l)) (find (λ (m : Laid Y). tests m.part) (map (laid_as f) ls))) 0
        ≡ option_map_or (λ (m : Laid X). m.at) (cond b (Some l) (find (λ (m : Laid X). test m.part) ls)) 0
    by true e = refl
    by false e = e

pub joined_map : {X Y : Type 0} (f : X → Y) (bytes : X → List ℕ) (written : Y → List ℕ) (at : ℕ) (ls : List (Laid X)) → ((k : ℕ) (l : Laid X) → slice_get ls k ≡ Some l → written (f l.part) ≡ bytes l.part)
    → joined written at (map (laid_as f) ls) ≡ joined bytes at ls
joined_map f bytes written at [] same = refl
joined_map f bytes written at (l ∷ ls) same =
    ap (λ xs. replicate (l.at - at) 0 ++ (xs ++ joined written (l.at + length xs) (map (laid_as f) ls))) (same 0 l refl)
    ∙ ap (λ xs. replicate (l.at - at) 0 ++ (bytes l.part ++ xs)) (joined_map f bytes written (l.at + length (bytes l.part)) ls (λ k m h. same (suc k) m h))

-- ... more on lists

pub filter-same : {X : Type 0} (f g : X → Bool) (xs : List X) → ((x : X) → f x ≡ g x) → filter f xs ≡ filter g xs
filter-same f g [] same = refl
filter-same f g (x ∷ xs) same = rw (same x, filter-same f g xs same) refl

pub flat_map-mapped : {X Y Z : Type 0} (f : X → Y) (g : X → List Z) (h : Y → List Z) (xs : List X) → ((k : ℕ) (x : X) → slice_get xs k ≡ Some x → h (f x) ≡ g x)
    → flat_map h (map f xs) ≡ flat_map g xs
flat_map-mapped f g h [] same = refl
flat_map-mapped f g h (x ∷ xs) same =
    ap (λ ys. ys ++ flat_map h (map f xs)) (same 0 x refl) ∙ ap (λ ys. g x ++ ys) (flat_map-mapped f g h xs (λ k y e. same (suc k) y e))

-- the list at a position of lists whose items are changed
pub lists_map : {X Y : Type 0} (f : X → Y) (lists : List (List X)) (k : ℕ) → slice_index_or (map (map f) lists) k [] ≡ map f (slice_index_or lists k [])
lists_map f [] k = refl
lists_map f (xs ∷ lists) zero = refl
lists_map f (xs ∷ lists) (suc k) = lists_map f lists k

pub map_append : {X Y : Type 0} (f : X → Y) (xs ys : List X) → map f (xs ++ ys) ≡ map f xs ++ map f ys
map_append f [] ys = refl
map_append f (x ∷ xs) ys = ap (λ zs. f x ∷ zs) (map_append f xs ys)

pub any_mapped : {X Y : Type 0} (f : X → Y) (test : X → Bool) (tests : Y → Bool) (xs : List X) → ((x : X) → tests (f x) ≡ test x) → list_any tests (map f xs) ≡ list_any test xs
any_mapped f test tests [] same = refl
any_mapped f test tests (x ∷ xs) same = rw (same x, any_mapped f test tests xs same) refl

pub filter_numbered : {X : Type 0} (test : X → Bool) (i : ℕ) (xs : List X) → filter test xs ≡ map (λ (x : ℕ × X). x.1) (filter (λ (x : ℕ × X). test x.1) (enumerate_from i xs))
filter_numbered test i [] = refl
filter_numbered {X} test i (x ∷ xs) = by (test x) (filter_numbered test (i + 1) xs)
  where
    by : (b : Bool) → filter test xs ≡ map (λ (y : ℕ × X). y.1) (filter (λ (y : ℕ × X). test y.1) (enumerate_from (i + 1) xs))
        → cond b (x ∷ filter test xs) (filter test xs) ≡ map (λ (y : ℕ × X). y.1) (cond b ((i, x) ∷ filter (λ (y : ℕ × X). test y.1) (enumerate_from (i + 1) xs)) (filter (λ (y : ℕ × X). test y.1) (enumerate_from (i + 1) xs)))
    by true e = ap (λ ys. x ∷ ys) e
    by false e = e

pub filter-flat_map : {X Y : Type 0} (test : Y → Bool) (f : X → List Y) (xs : List X) → filter test (flat_map f xs) ≡ flat_map (λ x. filter test (f x)) xs
filter-flat_map test f [] = refl
filter-flat_map test f (x ∷ xs) = filter-append test (f x) (flat_map f xs) ∙ ap (λ ys. filter test (f x) ++ ys) (filter-flat_map test f xs)

pub flat_map-none : {X Y : Type 0} (f : X → List Y) (xs : List X) → ((x : X) → f x ≡ []) → flat_map f xs ≡ []
flat_map-none f [] none = refl
flat_map-none f (x ∷ xs) none = ap (λ ys. ys ++ flat_map f xs) (none x) ∙ flat_map-none f xs none

-- only what passes the test gives something
pub flat_map-filter : {X Y : Type 0} (test : X → Bool) (f : X → List Y) (xs : List X) → ((x : X) → test x ≡ false → f x ≡ []) → flat_map f (filter test xs) ≡ flat_map f xs
flat_map-filter test f [] none = refl
flat_map-filter {X} test f (x ∷ xs) none = elim (test x) as (λ b. test x ≡ b → flat_map f (cond b (x ∷ filter test xs) (filter test xs)) ≡ f x ++ flat_map f xs) [
  | true ↦ λ e. ap (λ ys. f x ++ ys) (flat_map-filter test f xs none)
  | false ↦ λ e. flat_map-filter test f xs none ∙ sym (ap (λ ys. ys ++ flat_map f xs) (none x e))
] refl

pub map-flat_map : {X Y Z : Type 0} (g : Y → Z) (f : X → List Y) (xs : List X) → map g (flat_map f xs) ≡ flat_map (λ x. map g (f x)) xs
map-flat_map g f [] = refl
map-flat_map g f (x ∷ xs) = map_append g (f x) (flat_map f xs) ∙ ap (λ ys. map g (f x) ++ ys) (map-flat_map g f xs)

-- the first part that passes a test, where the tests agree on parts that are there
pub place_map_in : {X Y : Type 0} (f : X → Y) (test : X → Bool) (tests : Y → Bool) (ls : List (Laid X)) → ((k : ℕ) (l : Laid X) → slice_get ls k ≡ Some l → tests (f l.part) ≡ test l.part)
    → place_where tests (map (laid_as f) ls) ≡ place_where test ls
place_map_in f test tests [] same = refl
place_map_in {X} {Y} f test tests (l ∷ ls) same =
    ap (λ b. option_map_or (λ (m : Laid Y). m.at) (cond b (Some (laid_as f l)) (find (λ (m : Laid Y). tests m.part) (map (laid_as f) ls))) 0) (same 0 l refl)
    ∙ by (test l.part) (place_map_in f test tests ls (λ k m h. same (suc k) m h))
  where
    by : (b : Bool) → place_where tests (map (laid_as f) ls) ≡ place_where test ls
        → option_map_or (λ (m : Laid Y). m.at) (cond b (Some (laid_as f l)) (find (λ (m : Laid Y). tests m.part) (map (laid_as f) ls))) 0
        ≡ option_map_or (λ (m : Laid X). m.at) (cond b (Some l) (find (λ (m : Laid X). test m.part) ls)) 0
    by true e = refl
    by false e = e

pub laid_end_map : {X Y : Type 0} (f : X → Y) (begin : ℕ → X → ℕ) (begins : ℕ → Y → ℕ) (size : X → ℕ) (sizes : Y → ℕ) (at : ℕ) (xs : List X)
    → ((x : X) (p : ℕ) → begins p (f x) ≡ begin p x) → ((x : X) → sizes (f x) ≡ size x) → laid_end begins sizes at (map f xs) ≡ laid_end begin size at xs
laid_end_map f begin begins size sizes at [] same long = refl
laid_end_map f begin begins size sizes at (x ∷ xs) same long =
    ap (λ (p : ℕ). laid_end begins sizes (p + sizes (f x)) (map f xs)) (same x at)
    ∙ ap (λ (k : ℕ). laid_end begins sizes (begin at x + k) (map f xs)) (long x)
    ∙ laid_end_map f begin begins size sizes (begin at x + size x) xs same long
