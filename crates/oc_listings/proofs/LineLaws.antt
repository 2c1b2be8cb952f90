-- Lists of lines that are computed from others.
use Rattle.std.proofs.Common.{◌≡◌, ℕ, suc, ◌+◌, List, [], ◌∷◌, ◌++◌, length, map, Option, Some, None, refl, sym, ◌∙◌, ap, arith, length-append}
use Rattle.std.specs.{Prelude.{filter_map, slice_get}, List.{cons_option, enumerate_from, flat_map, range_with_len}, Option.{option_map}}
use Rattle.std.proofs.lemmas.{List.Concat.{flat_map-append}, List.Sums.{sum_by-cons}}
use Rattle.oc_chains.specs.Lists.{Lists, held_in, list_of}

-- two maps that agree at each element
pub filter_map-same : {X Y : Type 0} (g h : X → Option Y) (xs : List X) → ((x : X) → g x ≡ h x) → filter_map g xs ≡ filter_map h xs
filter_map-same g h [] same = refl
filter_map-same g h (x ∷ xs) same = ap (λ o. cons_option o (filter_map g xs)) (same x) ∙ ap (cons_option (h x)) (filter_map-same g h xs same)

-- a map after another
pub filter_map-map : {X Y Z : Type 0} (g : X → Option Y) (h : Y → Z) (xs : List X) → filter_map (λ x. option_map h (g x)) xs ≡ map h (filter_map g xs)
filter_map-map g h [] = refl
filter_map-map {X} {Y} {Z} g h (x ∷ xs) = by (g x) (filter_map-map g h xs)
  where
    by : (o : Option Y) → filter_map (λ z. option_map h (g z)) xs ≡ map h (filter_map g xs)
        → cons_option (option_map h o) (filter_map (λ z. option_map h (g z)) xs) ≡ map h (cons_option o (filter_map g xs))
    by None rest = rest
    by (Some y) rest = ap (λ ys. h y ∷ ys) rest

-- joined lists of joined lists
pub flat_map-twice : {X Y Z : Type 0} (g : Y → List Z) (h : X → List Y) (xs : List X) → flat_map g (flat_map h xs) ≡ flat_map (λ x. flat_map g (h x)) xs
flat_map-twice g h [] = refl
flat_map-twice g h (x ∷ xs) = flat_map-append g (h x) (flat_map h xs) ∙ ap (λ ys. flat_map g (h x) ++ ys) (flat_map-twice g h xs)

-- joined lists that agree at each element
pub flat_map-same : {X Z : Type 0} (g h : X → List Z) (xs : List X) → ((x : X) → g x ≡ h x) → flat_map g xs ≡ flat_map h xs
flat_map-same g h [] same = refl
flat_map-same g h (x ∷ xs) same = ap (λ ys. ys ++ flat_map g xs) (same x) ∙ ap (λ ys. h x ++ ys) (flat_map-same g h xs same)

-- joined lists of numbered elements are those of their numbers, where they agree at each position
pub flat_map-numbered : {X Z : Type 0} (g : ℕ × X → List Z) (h : ℕ → List Z) (k : ℕ) (xs : List X) → ((j i : ℕ) (x : X) → k + j ≡ i → slice_get xs j ≡ Some x → g (i, x) ≡ h i)
    → flat_map g (enumerate_from k xs) ≡ flat_map h (range_with_len k (length xs))
flat_map-numbered g h k [] each = refl
flat_map-numbered g h k (x ∷ xs) each =
    ap (λ ys. ys ++ flat_map g (enumerate_from (k + 1) xs)) (each 0 k x (omega arith) refl)
    ∙ ap (λ ys. h k ++ ys) (flat_map-numbered g h (k + 1) xs (λ j i y at here. each (suc j) i y (omega (arith, at)) here))

-- as many lines as fields are held
pub held-lines : {T Z : Type 0} (g : ℕ → List Z) (k : ℕ) (lists : Lists T) → ((j i : ℕ) → k + j ≡ i → length (g i) ≡ length (list_of lists j))
    → length (flat_map g (range_with_len k (length lists))) ≡ held_in lists
held-lines g k [] each = refl
held-lines g k (xs ∷ lists) each =
    length-append (g k) (flat_map g (range_with_len (k + 1) (length lists)))
    ∙ ap (λ m. m + length (flat_map g (range_with_len (k + 1) (length lists)))) (each 0 k (omega arith))
    ∙ ap (λ m. length xs + m) (held-lines g (k + 1) lists (λ j i at. each (suc j) i (omega (arith, at))))
    ∙ sym (sum_by-cons length xs lists)
