-- Turns of loops that add to a list what is made of a list of things, by their positions.
use Rattle.std.proofs.Common.{◌≡◌, ℕ, suc, ◌+◌, Bool, true, false, cond, List, [], ◌∷◌, ◌++◌, length, map, drop, Option, Some, refl, sym, ◌∙◌, ap}
use Rattle.std.specs.{Prelude.{slice_get}, List.{enumerate_from, filter}}
use Rattle.oc_shelf.specs.Writing.Parts.{laid}
use Rattle.oc_target.proofs.Giving.{more_given, all_given}
use Rattle.oc_neutral.proofs.FieldLists.{drop_here}

pub map_append : {X Y : Type 0} (f : X → Y) (xs ys : List X) → map f (xs ++ ys) ≡ map f xs ++ map f ys
map_append f [] ys = refl
map_append f (x ∷ xs) ys = ap (λ zs. f x ∷ zs) (map_append f xs ys)

-- ... what is made of the thing at a position, and of those behind it

pub map_step : {X Y : Type 0} (f : ℕ × X → Y) (xs : List X) (k : ℕ) (x : X) → slice_get xs k ≡ Some x
    → map f (enumerate_from k (drop k xs)) ≡ f (k, x) ∷ map f (enumerate_from (k + 1) (drop (k + 1) xs))
map_step f xs k x here = ap (λ ys. map f (enumerate_from k ys)) (drop_here xs k x here)

pub filter_step : {X Y : Type 0} (f : ℕ × X → Y) (test : ℕ × X → Bool) (xs : List X) (k : ℕ) (x : X) → slice_get xs k ≡ Some x
    → map f (filter test (enumerate_from k (drop k xs))) ≡ cond (test (k, x)) (f (k, x) ∷ []) [] ++ map f (filter test (enumerate_from (k + 1) (drop (k + 1) xs)))
filter_step {X} f test xs k x here = ap (λ ys. map f (filter test (enumerate_from k ys))) (drop_here xs k x here) ∙ by (test (k, x))
  where
    rest : List (ℕ × X)
    rest = filter test (enumerate_from (k + 1) (drop (k + 1) xs))

    by : (b : Bool) → map f (cond b ((k, x) ∷ rest) rest) ≡ cond b (f (k, x) ∷ []) [] ++ map f rest
    by true = refl
    by false = refl

-- ... a turn

-- some is added, each of which is one of those that were left
pub turn : {A Y : Type 0} (into : A → Option Y) (done now added : List A) (some rest left : List Y) (all : List (Option Y))
    → now ≡ done ++ added → map into added ≡ map Some some → rest ≡ some ++ left → map into done ++ map Some rest ≡ all → map into now ++ map Some left ≡ all
turn into done now added some rest left all is same step so_far =
    more_given (map into done) (map into now) (map Some rest) (map Some left) (map Some some) all
    (ap (map into) is ∙ map_append into done added ∙ ap (λ zs. map into done ++ zs) same)
    (ap (map Some) step ∙ map_append Some some left) so_far

-- one that is wanted
pub turn_if : {A Y : Type 0} (into : A → Option Y) (done now : List A) (a : A) (y : Y) (wanted test : Bool) (rest left : List Y) (all : List (Option Y))
    → now ≡ done ++ cond wanted (a ∷ []) [] → into a ≡ Some y → wanted ≡ test → rest ≡ cond test (y ∷ []) [] ++ left → map into done ++ map Some rest ≡ all
    → map into now ++ map Some left ≡ all
turn_if {A} {Y} into done now a y wanted test rest left all is same told step so_far =
    turn into done now (cond wanted (a ∷ []) []) (cond wanted (y ∷ []) []) rest left all is (by wanted) (step ∙ ap (λ b. cond b (y ∷ []) [] ++ left) (sym told)) so_far
  where
    by : (b : Bool) → map into (cond b (a ∷ []) []) ≡ map Some (cond b (y ∷ []) [])
    by true = ap (λ o. o ∷ []) same
    by false = refl

-- nothing is left
pub whole : {A Y : Type 0} (into : A → Option Y) (now : List A) (left : List Y) (all : List (Option Y)) → left ≡ [] → map into now ++ map Some left ≡ all → map into now ≡ all
whole into now left all none so_far = all_given (map into now) (map Some left) all (ap (map Some) none) so_far

-- as many things are laid as there are
pub length-laid : {X : Type 0} (begin : ℕ → X → ℕ) (size : X → ℕ) (at : ℕ) (xs : List X) → length (laid begin size at xs) ≡ length xs
length-laid begin size at [] = refl
length-laid begin size at (x ∷ xs) = ap suc (length-laid begin size (begin at x + size x) xs)
