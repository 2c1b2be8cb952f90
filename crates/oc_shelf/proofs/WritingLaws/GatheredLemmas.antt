-- Lists that are gathered entry by entry, from things that are numbered one by one.
use Rattle.std.proofs.Common.{◌≡◌, ℕ, zero, suc, ◌+◌, true, false, cond, List, [], ◌∷◌, ◌++◌, length, map, Option, Some, None, refl, sym, ◌∙◌, ap, subst, arith, append_assoc, append-nil}
use Rattle.std.specs.{Prelude.{slice_get, filter_map, find, Bool}, List.{cons_option, range_with_len}}
use Rattle.oc_linking.specs.Numbers.{or_else, first_upto}
use Rattle.std.proofs.lemmas.Option.{none-some, same_Some}
use Rattle.oc_shelf.specs.{Reading.Collected.{with_option, collected}, Writing.Parts.{Laid, laid, behind, place_where}}
use Rattle.oc_shelf.proofs.{ReadingLaws.StageLemmas.{first_upto-head}, WritingLaws.PartLemmas.{laid_part, place_found}}

-- what entries give is what is left of the things that stand at their numbers
pub collected_laid : {X Y : Type 0} (size : X → ℕ) (one : (x : X) → size x ≡ 1) (item : ℕ → Option Y) (g : Laid X → Option Y) (i : ℕ) (xs : List X)
    → ((k : ℕ) (l : Laid X) → slice_get (laid behind size i xs) k ≡ Some l → item l.at ≡ g l)
    → collected item (i + length xs) ≡ collected item i ++ filter_map g (laid behind size i xs)
collected_laid size one item g i [] each =
    let e : i + 0 ≡ i = omega arith in
    ap (collected item) e ∙ sym (append-nil (collected item i))
collected_laid {X} {Y} size one item g i (x ∷ xs) each =
    let next : i + suc (length xs) ≡ i + size x + length xs = omega (arith, one x) in
    let more : i + size x ≡ suc i = omega (arith, one x) in
    let here : item i ≡ g (record { at = i; part = x }) = each 0 (record { at = i; part = x }) refl in
    ap (collected item) next
    ∙ collected_laid size one item g (i + size x) xs (λ k l h. each (suc k) l h)
    ∙ ap (λ j. collected item j ++ filter_map g (laid behind size (i + size x) xs)) more
    ∙ ap (λ o. with_option (collected item i) o ++ filter_map g (laid behind size (i + size x) xs)) here
    ∙ by (collected item i) (g (record { at = i; part = x })) (filter_map g (laid behind size (i + size x) xs))
  where
    by : (ys : List Y) (o : Option Y) (zs : List Y) → with_option ys o ++ zs ≡ ys ++ cons_option o zs
    by ys None zs = refl
    by ys (Some y) zs = append_assoc ys (y ∷ []) zs

pub collected_all : {X Y : Type 0} (size : X → ℕ) (one : (x : X) → size x ≡ 1) (item : ℕ → Option Y) (g : Laid X → Option Y) (xs : List X)
    → ((k : ℕ) (l : Laid X) → slice_get (laid behind size 0 xs) k ≡ Some l → item l.at ≡ g l) → collected item (length xs) ≡ filter_map g (laid behind size 0 xs)
collected_all size one item g xs each =
    let e : length xs ≡ 0 + length xs = omega arith in
    ap (collected item) e ∙ collected_laid size one item g 0 xs each

-- a list by its places
pub map_range : {X : Type 0} (f : ℕ → X) (i : ℕ) (xs : List X) → ((k : ℕ) (x : X) → slice_get xs k ≡ Some x → f (i + k) ≡ x) → map f (range_with_len i (length xs)) ≡ xs
map_range f i [] each = refl
map_range {X} f i (x ∷ xs) each =
    let start : i ≡ i + 0 = omega arith in
    ap (λ y. y ∷ map f (range_with_len (i + 1) (length xs))) (ap f start ∙ each 0 x refl)
    ∙ ap (λ ys. x ∷ ys) (map_range f (i + 1) xs (λ k y h. let more : i + 1 + k ≡ i + suc k = omega arith in ap f more ∙ each (suc k) y h))

-- things of size 1 stand at their positions
pub laid_ones : {X : Type 0} (size : X → ℕ) (at : ℕ) (xs : List X) → ((x : X) → size x ≡ 1) → (k : ℕ) (l : Laid X) → slice_get (laid behind size at xs) k ≡ Some l → l.at ≡ at + k
laid_ones size at [] one k l here = absurd (none-some l here)
laid_ones {X} size at (x ∷ xs) one zero l here = let e : at ≡ l.at = ap (λ (y : Laid X). y.at) (same_Some _ l here) in omega (arith, e)
laid_ones size at (x ∷ xs) one (suc k) l here =
    let rest = laid_ones size (at + size x) xs one k l here in
    omega (arith, rest, one x)

-- so what a test finds stands at that position in the list
pub found_ones : {X : Type 0} (size : X → ℕ) (test : X → Bool) (xs : List X) → ((x : X) → size x ≡ 1) → (k : ℕ) (x : X) → slice_get xs k ≡ Some x → test x ≡ true
    → ((j : ℕ) (y : X) → slice_get xs j ≡ Some y → test y ≡ true → y ≡ x) → slice_get xs (place_where test (laid behind size 0 xs)) ≡ Some x
found_ones {X} size test xs one k x here passes unique =
    let f = place_found behind size test 0 xs k x here passes unique in
    let at : f.one.at ≡ 0 + f.index = laid_ones size 0 xs one f.index f.one f.here in
    let e : f.index ≡ place_where test (laid behind size 0 xs) = omega (arith, at, f.place) in
    subst (λ i. slice_get xs i ≡ Some x) e (laid_part behind size (λ p y. omega arith) 0 xs f.index f.one f.here ∙ ap (λ (y : X). Some y) f.part)

-- the first entry that passes a test, by its number, is the first of the list
pub first_found : {X : Type 0} (item : ℕ → Option X) (test : X → Bool) (xs : List X) → ((k : ℕ) (x : X) → slice_get xs k ≡ Some x → item k ≡ cond (test x) (Some x) None)
    → first_upto item (length xs) ≡ find test xs
first_found item test [] each = refl
first_found {X} item test (x ∷ xs) each =
    first_upto-head item (length xs)
    ∙ ap (λ o. or_else o (first_upto (λ i. item (suc i)) (length xs))) (each 0 x refl)
    ∙ ap (or_else (cond (test x) (Some x) None)) (first_found (λ i. item (suc i)) test xs (λ k y h. each (suc k) y h))
    ∙ by (test x)
  where
    by : (b : Bool) → or_else (cond b (Some x) None) (find test xs) ≡ cond b (Some x) (find test xs)
    by true = refl
    by false = refl

-- ... fields by their offsets
