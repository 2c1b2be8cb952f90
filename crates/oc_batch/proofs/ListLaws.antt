-- The words of a line, and the jobs of a text, one piece after the other.
use Rattle.std.proofs.Common.{◌≡◌, ℕ, ◌+◌, ◌<◌, ◌≤◌, Bool, true, false, cond, zero, suc, get_or, List, [], ◌∷◌, ◌++◌, length, map, refl, sym, ap, subst, ◌∙◌, arith}
use Rattle.std.specs.List.{filter, slice_split, onto_first, AllByRecursion}
use Rattle.std.proofs.lemmas.{List.{map-append}, List.Elements.{filter-append}}

-- what passes of pieces, with one more piece
pub pieces_more : {X Y : Type 0} (p : Y → Bool) (f : X → Y) (xs : List X) (x : X) → filter p (map f (xs ++ x ∷ [])) ≡ filter p (map f xs) ++ filter p (f x ∷ [])
pieces_more p f xs x = ap (filter p) (map-append f xs (x ∷ [])) ∙ filter-append p (map f xs) (f x ∷ [])

-- a map after another
pub map_twice : {X Y Z : Type 0} (f : Y → Z) (g : X → Y) (xs : List X) → map (λ x. f (g x)) xs ≡ map f (map g xs)
map_twice f g [] = refl
map_twice f g (x ∷ xs) = ap (λ ys. f (g x) ∷ ys) (map_twice f g xs)

-- no more pass than there are
pub filter_bound : {X : Type 0} (p : X → Bool) (xs : List X) → length (filter p xs) ≤ length xs
filter_bound p [] = omega arith
filter_bound p (x ∷ xs) = by (p x) (filter_bound p xs)
  where
    by : (b : Bool) → length (filter p xs) ≤ length xs → length (cond b (x ∷ filter p xs) (filter p xs)) ≤ length (x ∷ xs)
    by true h = omega (arith, h)
    by false h = omega (arith, h)

-- no piece of a text is longer than the text, and there is at most one piece more than bytes
abbrev pub AreShort : ℕ → List (List ℕ) → Type 0
AreShort n = AllByRecursion (λ piece. length piece ≤ n)

short_more : (n m : ℕ) (pieces : List (List ℕ)) → n ≤ m → AreShort n pieces → AreShort m pieces
short_more n m [] le h = h
short_more n m (x ∷ xs) le h = (omega (arith, le, h.0), short_more n m xs le h.1)

short_onto : (n x : ℕ) (pieces : List (List ℕ)) → AreShort n pieces → AreShort (suc n) (onto_first x pieces)
short_onto n x [] h = (omega arith, tt)
short_onto n x (piece ∷ pieces) h = (omega (arith, h.0), short_more n (suc n) pieces (omega arith) h.1)

pub short_pieces : (p : ℕ → Bool) (text : List ℕ) → AreShort (length text) (slice_split p text)
short_pieces p [] = (omega arith, tt)
short_pieces p (x ∷ xs) = by (p x) (short_pieces p xs)
  where
    by : (b : Bool) → AreShort (length xs) (slice_split p xs) → AreShort (length (x ∷ xs)) (cond b ([] ∷ slice_split p xs) (onto_first x (slice_split p xs)))
    by true h = (omega arith, short_more (length xs) (length (x ∷ xs)) (slice_split p xs) (omega arith) h)
    by false h = short_onto (length xs) x (slice_split p xs) h

-- there is at most one piece more than bytes
pub few_pieces : (p : ℕ → Bool) (text : List ℕ) → length (slice_split p text) ≤ length text + 1
few_pieces p [] = omega arith
few_pieces p (x ∷ xs) = by (p x) (slice_split p xs) (few_pieces p xs)
  where
    by : (b : Bool) (pieces : List (List ℕ)) → length pieces ≤ length xs + 1 → length (cond b ([] ∷ pieces) (onto_first x pieces)) ≤ length (x ∷ xs) + 1
    by true pieces h = omega (arith, h)
    by false [] h = omega arith
    by false (piece ∷ pieces) h = omega (arith, h)

-- a piece is no longer than the text
pub short_piece : (n i : ℕ) (d : List ℕ) (pieces : List (List ℕ)) → AreShort n pieces → i < length pieces → d ≡ get_or pieces i d → length d ≤ n
short_piece n i d [] short within at = absurd (omega (arith, within))
short_piece n zero d (x ∷ xs) short within at = subst (λ y. length y ≤ n) (sym at) short.0
short_piece n (suc i) d (x ∷ xs) short within at = short_piece n i d xs short.1 (omega (arith, within)) at
