-- What stands at a place of a file, and how it is read there.
use Rattle.std.proofs.Common.{◌≡◌, ℕ, zero, suc, ◌+◌, ◌*◌, ◌^◌, ◌<◌, ◌≤◌, List, [], ◌∷◌, ◌++◌, length, get_or, take, drop, map, Some, refl, sym, ◌∙◌, ap, subst, arith, append_assoc, append-nil, length-append}
use Rattle.std.specs.Prelude.{flat_map, slice_get}
use Rattle.std.proofs.lemmas.{List.{take_at, take-append-le, get_or_append_left}, Option.{none-some, same_Some}}
use Rattle.std.proofs.Math.Seq.{drop-append-add}
use Rattle.oc_base.specs.Numbers.{number_at, bytes_of_number}
use Rattle.oc_base.proofs.NumberLaws.{number_at-shift, number_at-bytes}
use Rattle.oc_shelf.specs.{Reading.Rows.{rows}, Writing.Parts.{Stands}}

-- a whole file stands at its beginning
pub stands_whole : (xs : List ℕ) → Stands xs 0 xs
stands_whole xs = record { front = []; back = []; is = simp append-nil; place = refl }

-- what stands in a part of the file stands in the file
pub stands_in : (file ys xs : List ℕ) (q p at : ℕ) → Stands file q ys → Stands ys p xs → at ≡ q + p → Stands file at xs
stands_in file ys xs q p at outer inner e = record {
  front = outer.front ++ inner.front;
  back = inner.back ++ outer.back;
  is = outer.is ∙ ap (λ zs. outer.front ++ (zs ++ outer.back)) inner.is ∙ simp append_assoc;
  place = length-append outer.front inner.front ∙ omega (arith, outer.place, inner.place, e);
}

-- the first of two
pub stands_first : (xs ys : List ℕ) → Stands (xs ++ ys) 0 xs
stands_first xs ys = record { front = []; back = ys; is = refl; place = refl }

-- what stands in the second of two
pub stands_second : (front ys xs : List ℕ) (p at : ℕ) → Stands ys p xs → at ≡ length front + p → Stands (front ++ ys) at xs
stands_second front ys xs p at s e = record {
  front = front ++ s.front;
  back = s.back;
  is = ap (λ zs. front ++ zs) s.is ∙ sym (append_assoc front s.front (xs ++ s.back));
  place = length-append front s.front ∙ omega (arith, s.place, e);
}

-- the front of what stands
pub stands_front : (file xs ys : List ℕ) (at : ℕ) → Stands file at (xs ++ ys) → Stands file at xs
stands_front file xs ys at s = record { front = s.front; back = ys ++ s.back; is = s.is ∙ ap (λ zs. s.front ++ zs) (append_assoc xs ys s.back); place = s.place }

-- it is inside
pub stands_inside : (file xs : List ℕ) (at : ℕ) → Stands file at xs → at + length xs ≤ length file
stands_inside file xs at s =
    let whole : length file ≡ length s.front + (length xs + length s.back)
    = ap length s.is ∙ length-append s.front (xs ++ s.back) ∙ ap (λ n. length s.front + n) (length-append xs s.back) in
    omega (arith, whole, s.place)

-- the rest of the file from there on
pub stands_drop : (file xs : List ℕ) (at : ℕ) (s : Stands file at xs) → drop at file ≡ xs ++ s.back
stands_drop file xs at s =
    let e : at ≡ length s.front + 0 = omega (arith, s.place) in
    ap (λ zs. drop at zs) s.is ∙ ap (λ k. drop k (s.front ++ (xs ++ s.back))) e ∙ drop-append-add s.front (xs ++ s.back) 0

-- it is taken from there
pub stands_take : (file xs : List ℕ) (at n : ℕ) → Stands file at xs → n ≡ length xs → take n (drop at file) ≡ xs
stands_take file xs at n s e = ap (λ zs. take n zs) (stands_drop file xs at s) ∙ take_at xs s.back n (sym e)

-- a number is read there
pub stands_number : (file : List ℕ) (at k x : ℕ) → Stands file at (bytes_of_number k x) → x < 256 ^ k → number_at file at k ≡ x
stands_number file at k x s small =
    let e : at ≡ length s.front + 0 = omega (arith, s.place) in
    ap (λ zs. number_at zs at k) s.is ∙ number_at-shift s.front (bytes_of_number k x ++ s.back) at 0 k e ∙ number_at-bytes k x s.back small

-- in a table of entries of one length
pub stands_row : {X : Type 0} (entry : X → List ℕ) (w : ℕ) (xs : List X) (k : ℕ) (x : X) → ((j : ℕ) (y : X) → slice_get xs j ≡ Some y → length (entry y) ≡ w)
    → slice_get xs k ≡ Some x → Stands (flat_map entry xs) (w * k) (entry x)
stands_row entry w [] k x sized here = absurd (none-some x here)
stands_row entry w (y ∷ xs) zero x sized here =
    let e : 0 ≡ w * 0 = omega arith in
    subst (λ z. Stands (flat_map entry (y ∷ xs)) (w * 0) (entry z)) (same_Some y x here) (subst (λ p. Stands (flat_map entry (y ∷ xs)) p (entry y)) e (stands_first (entry y) (flat_map entry xs)))
stands_row entry w (y ∷ xs) (suc k) x sized here =
    let e : w * suc k ≡ length (entry y) + w * k = rw (sized 0 y refl) (grind arith) in
    stands_second (entry y) (flat_map entry xs) (entry x) (w * k) (w * suc k) (stands_row entry w xs k x (λ j z h. sized (suc j) z h) here) e

pub length-entries : {X : Type 0} (entry : X → List ℕ) (w : ℕ) (xs : List X) → ((j : ℕ) (y : X) → slice_get xs j ≡ Some y → length (entry y) ≡ w) → length (flat_map entry xs) ≡ w * length xs
length-entries entry w [] sized = omega arith
length-entries entry w (x ∷ xs) sized =
    length-append (entry x) (flat_map entry xs) ∙ rw (sized 0 x refl, length-entries entry w xs (λ j z h. sized (suc j) z h)) (grind arith)

-- the back of what stands
pub stands_back : (file xs ys : List ℕ) (at p : ℕ) → Stands file at (xs ++ ys) → p ≡ at + length xs → Stands file p ys
stands_back file xs ys at p s e = record {
  front = s.front ++ xs;
  back = s.back;
  is = s.is ∙ ap (λ zs. s.front ++ zs) (append_assoc xs ys s.back) ∙ sym (append_assoc s.front xs (ys ++ s.back));
  place = length-append s.front xs ∙ omega (arith, s.place, e);
}

-- at another place of the same number
pub stands_at : (file xs : List ℕ) (at p : ℕ) → Stands file at xs → at ≡ p → Stands file p xs
stands_at file xs at p s e = subst (λ k. Stands file k xs) e s

-- a number in a front
pub number_at-front : (xs ys : List ℕ) (j k : ℕ) → j + k ≤ length xs → number_at (xs ++ ys) j k ≡ number_at xs j k
unfolding number_at
number_at-front xs ys j zero le = refl
number_at-front xs ys j (suc k) le =
    let byte : get_or (xs ++ ys) j 0 ≡ get_or xs j 0 = get_or_append_left xs ys 0 j (omega (arith, le)) in
    let rest : number_at (xs ++ ys) (suc j) k ≡ number_at xs (suc j) k = number_at-front xs ys (suc j) k (omega (arith, le)) in
    rw (byte, rest) refl

-- a number in what stands is read in the file
pub number_within : (file xs : List ℕ) (at j k p : ℕ) → Stands file at xs → j + k ≤ length xs → p ≡ at + j → number_at file p k ≡ number_at xs j k
number_within file xs at j k p s inside e =
    let past : p ≡ length s.front + j = omega (arith, e, s.place) in
    ap (λ zs. number_at zs p k) s.is ∙ number_at-shift s.front (xs ++ s.back) p j k past ∙ number_at-front xs s.back j k inside

-- the first bytes of what stands
pub bytes_within : (file xs : List ℕ) (at n : ℕ) → Stands file at xs → n ≤ length xs → take n (drop at file) ≡ take n xs
bytes_within file xs at n s inside = ap (λ zs. take n zs) (stands_drop file xs at s) ∙ take-append-le n xs s.back inside

-- entries of a table, each read where it stands
pub rows_read : {X Y : Type 0} (read : List ℕ → ℕ → Y) (w : ℕ) (entry : X → List ℕ) (value : X → Y) (file : List ℕ) (at : ℕ) (xs : List X)
    → ((k : ℕ) (x : X) → slice_get xs k ≡ Some x → length (entry x) ≡ w)
    → ((k p : ℕ) (x : X) → slice_get xs k ≡ Some x → Stands file p (entry x) → read file p ≡ value x)
    → Stands file at (flat_map entry xs) → rows read w file at (length xs) ≡ map value xs
rows_read read w entry value file at [] sized reads s = refl
rows_read read w entry value file at (x ∷ xs) sized reads s =
    let next : at + w ≡ at + length (entry x) = omega (arith, sized 0 x refl) in
    ap (λ y. y ∷ rows read w file (at + w) (length xs)) (reads 0 at x refl (stands_front file (entry x) (flat_map entry xs) at s))
    ∙ ap (λ ys. value x ∷ ys) (rows_read read w entry value file (at + w) xs (λ k y h. sized (suc k) y h) (λ k p y h. reads (suc k) p y h)
    (stands_back file (entry x) (flat_map entry xs) at (at + w) s next))
