-- Files with a layout: which parts they have, and windows of them.
use Rattle.std.proofs.Common.{◌≡◌, ℕ, zero, suc, ◌+◌, ◌-◌, ◌<◌, ◌≤◌, List, [], ◌∷◌, ◌++◌, length, take, drop, replicate, get_or, refl, sym, ◌∙◌, ap, subst, arith, length-append}
use Rattle.std.proofs.lemmas.List.{length-replicate}
use Rattle.oc_outside.specs.Windows.{IsFilled}
use Rattle.oc_shelf.specs.{declared.writing.layout.Layout.{Layout}, Writing.Parts.{IsPlaced, Pieces, file_of, joined, piece_at, pieces_at, pieces_by}}
use Rattle.oc_shelf.proofs.{WritingLaws.PieceLemmas.{bytes_from, cut_behind, file_more, front_end, front_low, gap_long}, WritingLaws.WindowLemmas.{filled_full}}

-- ... parts at places

pub length-pieces : (places : List ℕ) (parts : List (List ℕ)) → length places ≡ length parts → length (pieces_at places parts) ≡ length places
length-pieces [] parts same = refl
length-pieces (at ∷ places) [] same = absurd (omega (arith, same))
length-pieces (at ∷ places) (x ∷ parts) same = ap suc (length-pieces places parts (omega (arith, same)))

pub part_is : (places : List ℕ) (parts : List (List ℕ)) (k : ℕ) → length places ≡ length parts → (piece_at (pieces_at places parts) k).part ≡ get_or parts k []
part_is [] [] k same = refl
part_is [] (x ∷ parts) k same = absurd (omega (arith, same))
part_is (at ∷ places) [] k same = absurd (omega (arith, same))
part_is (at ∷ places) (x ∷ parts) zero same = refl
part_is (at ∷ places) (x ∷ parts) (suc k) same = part_is places parts k (omega (arith, same))

pub place_is : (places : List ℕ) (parts : List (List ℕ)) (k : ℕ) → length places ≡ length parts → (piece_at (pieces_at places parts) k).at ≡ get_or places k 0
place_is [] parts k same = refl
place_is (at ∷ places) [] k same = absurd (omega (arith, same))
place_is (at ∷ places) (x ∷ parts) zero same = refl
place_is (at ∷ places) (x ∷ parts) (suc k) same = place_is places parts k (omega (arith, same))

pub get_any : {X : Type 0} (xs : List X) (k : ℕ) (d e : X) → k < length xs → get_or xs k d ≡ get_or xs k e
get_any [] k d e low = absurd (omega (arith, low))
get_any (x ∷ xs) zero d e low = refl
get_any (x ∷ xs) (suc k) d e low = get_any xs k d e (omega (arith, low))

part_within : (at : ℕ) (places : List ℕ) (parts : List (List ℕ)) → length places ≡ length parts → (k : ℕ) → length (get_or parts k []) ≤ length (joined (λ (x : List ℕ). x) at (pieces_at places parts))
part_within at [] [] same k = omega arith
part_within at [] (x ∷ parts) same k = absurd (omega (arith, same))
part_within at (p ∷ places) [] same k = absurd (omega (arith, same))
part_within at (p ∷ places) (x ∷ parts) same zero =
    let rest : List ℕ = joined (λ (y : List ℕ). y) (p + length x) (pieces_at places parts) in
    omega (arith, length-append (replicate {A = ℕ} (p - at) 0) (x ++ rest), length-append x rest)
part_within at (p ∷ places) (x ∷ parts) same (suc k) =
    let rest : List ℕ = joined (λ (y : List ℕ). y) (p + length x) (pieces_at places parts) in
    omega (arith, part_within (p + length x) places parts (omega (arith, same)) k, length-append (replicate {A = ℕ} (p - at) 0) (x ++ rest), length-append x rest)

-- no part is longer than the file
pub part_low : (layout : Layout) (parts : List (List ℕ)) → IsPlaced layout parts → (k : ℕ) → length (get_or parts k []) ≤ layout.end
part_low layout parts is k =
    let low = part_within 0 layout.places.items parts is.counted k in
    let ends = is.ends in
    omega (arith, low, ends)

-- ... windows

-- zeros behind the first of them
drop_zeros : (at n : ℕ) → drop at (replicate {A = ℕ} n 0) ≡ replicate (n - at) 0
drop_zeros zero n = let e : n - 0 ≡ n = omega arith in ap (λ m. replicate m 0) (sym e)
drop_zeros (suc at) zero = let e : 0 - suc at ≡ 0 = omega arith in ap (λ m. replicate m 0) (sym e)
drop_zeros (suc at) (suc n) = let e : suc n - suc at ≡ n - at = omega arith in drop_zeros at n ∙ ap (λ m. replicate m 0) (sym e)

pub zeros_filled : (at n left : ℕ) (old new : List ℕ) (m : ℕ) → left ≡ n - at → IsFilled (replicate left 0) 0 old new m → IsFilled (replicate n 0) at old new m
zeros_filled at n left old new m e is =
    let count = is.count in
    record {
      count = omega (arith, count, e, length-replicate {A = ℕ} left 0, length-replicate {A = ℕ} n 0);
      bytes = is.bytes ∙ ap (λ zs. take m zs ++ drop m old) (ap (λ k. replicate k 0) e ∙ sym (drop_zeros at n));
    }

module _ (layout : Layout) (parts : List (List ℕ)) (is : IsPlaced layout parts) where
  abbrev places : List ℕ
  places = layout.places.items

  abbrev pieces : Pieces
  pieces = pieces_by layout parts

  -- there are as many pieces as places
  pub pieces_counted : length pieces ≡ length places
  pieces_counted = length-pieces places parts is.counted

  -- the parts before part k end where it begins, or before
  pub front_ends : (k : ℕ) → k < length places → length (file_of (take k pieces)) ≤ get_or places k 0
  front_ends k low =
      let front = front_low 0 pieces k is.order (omega (arith, low, pieces_counted)) in
      let place = place_is places parts k is.counted in
      omega (arith, front, place)

  -- those before the part from which a window is filled end where the window begins, or before
  pub start_ends : (count start from : ℕ) → count ≤ length places → (0 < count → get_or places (count - 1) 0 ≤ from) → start ≡ count - 1 → length (file_of (take start pieces)) ≤ from
  start_ends zero start from within before e =
      let none : start ≡ 0 = omega (arith, e) in
      subst (λ k. length (file_of (take k pieces)) ≤ from) (sym none) (omega arith)
  start_ends (suc count) start from within before e =
      let same : start ≡ count = omega (arith, e) in
      let last : suc count - 1 ≡ count = omega arith in
      let low : get_or places count 0 ≤ from = subst (λ k. get_or places k 0 ≤ from) last (before (omega arith)) in
      let front = front_ends count (omega (arith, within)) in
      subst (λ k. length (file_of (take k pieces)) ≤ from) (sym same) (omega (arith, low, front))

  module _ (k : ℕ) (low : k < length places) where
    here : k < length pieces
    here = omega (arith, low, pieces_counted)

    -- with the zeros before part k they end where it begins
    pub gap_ends : length (file_of (take k pieces) ++ replicate {A = ℕ} (get_or places k 0 - length (file_of (take k pieces))) 0) ≡ get_or places k 0
    gap_ends =
        let place = place_is places parts k is.counted in
        ap (λ p. length (file_of (take k pieces) ++ replicate {A = ℕ} (p - length (file_of (take k pieces))) 0)) (sym place)
        ∙ gap_long pieces k (length (file_of (take k pieces))) is.order here refl ∙ place

    -- and with part k they are one part more
    pub part_more : (file_of (take k pieces) ++ replicate (get_or places k 0 - length (file_of (take k pieces))) 0) ++ get_or parts k [] ≡ file_of (take (k + 1) pieces)
    part_more =
        ap (λ p. (file_of (take k pieces) ++ replicate (p - length (file_of (take k pieces))) 0) ++ get_or parts k []) (sym (place_is places parts k is.counted))
        ∙ ap (λ xs. (file_of (take k pieces) ++ replicate ((piece_at pieces k).at - length (file_of (take k pieces))) 0) ++ xs) (sym (part_is places parts k is.counted))
        ∙ sym (file_more pieces k (length (file_of (take k pieces))) is.order here refl)

  -- a full buffer takes nothing of the parts from k on
  pub full : (k : ℕ) (old new : List ℕ) (from n : ℕ) → IsFilled (file_of (take k pieces)) from old new n → length old ≤ n → IsFilled (file_of pieces) from old new n
  full k old new from n filled no_room =
      subst (λ (zs : List ℕ). IsFilled zs from old new n) (sym (cut_behind 0 pieces k is.order))
      (filled_full (file_of (take k pieces)) (bytes_from (front_end 0 pieces k) (drop k pieces)) old new from n filled no_room)
