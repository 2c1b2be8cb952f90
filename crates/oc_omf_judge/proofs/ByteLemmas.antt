-- How many bytes all segments have whose kind is not Zero.
use Rattle.std.proofs.Common.{◌≡◌, ℕ, zero, suc, ◌+◌, ◌≤◌, inl, inr, Bool, true, false, cond, List, [], ◌∷◌, length, refl, sym, ◌∙◌, ap, arith}
use Rattle.std.specs.{Prelude.{slice_get}, List.{enumerate_from, sum_by}, Option.{option_map_or}}
use Rattle.std.proofs.lemmas.{Bool.{cases_eq}, List.Sums.{sum_by-cons}}
use Rattle.oc_linking.specs.declared.terms.Kind.TheVariants.{Zero}
use Rattle.oc_neutral.specs.KindRules.{same_kind}
use Rattle.oc_shelf.specs.Reading.Sums.{sum_upto}
use Rattle.oc_omf_judge.specs.{declared.defined.Defined.{Defined}, Defined.{IsDefined, bytes_in}}
use Rattle.oc_omf.specs.{declared.structures.Segment.{Segment}, Tables.{Tables}, Sections.{segment_kind, segment_size}, SectionFaults.{all_bytes, bytes_size}}

sum_same : (f g : ℕ → ℕ) (n : ℕ) → ((i : ℕ) → f i ≡ g i) → sum_upto f n ≡ sum_upto g n
sum_same f g zero same = refl
sum_same f g (suc n) same = rw (sum_same f g n same, same n) refl

sum_head : (f : ℕ → ℕ) (n : ℕ) → sum_upto f (suc n) ≡ f 0 + sum_upto (λ i. f (suc i)) n
sum_head f zero = omega arith
sum_head f (suc n) = let e = sum_head f n in omega (arith, e)

-- a sum over numbered things
numbered_sum : {X : Type 0} (f : ℕ × X → ℕ) (m : ℕ) (xs : List X) → sum_by f (enumerate_from m xs) ≡ sum_upto (λ k. option_map_or (λ s. f (m + k, s)) (slice_get xs k) 0) (length xs)
numbered_sum f m [] = refl
numbered_sum {X} f m (x ∷ xs) =
    let start : m ≡ m + 0 = omega arith in
    sum_by-cons f (m, x) (enumerate_from (m + 1) xs)
    ∙ ap (λ (n : ℕ). f (m, x) + n) (numbered_sum f (m + 1) xs
    ∙ sum_same (λ k. option_map_or (λ s. f (m + 1 + k, s)) (slice_get xs k) 0) (λ k. option_map_or (λ s. f (m + suc k, s)) (slice_get xs k) 0) (length xs)
    (λ k. let e : m + 1 + k ≡ m + suc k = omega arith in ap (λ (j : ℕ). option_map_or (λ s. f (j, s)) (slice_get xs k) 0) e))
    ∙ ap (λ (j : ℕ). f (j, x) + sum_upto (λ k. option_map_or (λ s. f (m + suc k, s)) (slice_get xs k) 0) (length xs)) start
    ∙ sym (sum_head (λ k. option_map_or (λ s. f (m + k, s)) (slice_get (x ∷ xs) k) 0) (length xs))

-- the bytes of all
pub bytes_are : (t : Tables) → sum_upto (bytes_in t) (length t.segments) ≡ all_bytes t
unfolding all_bytes
bytes_are t =
    sum_same (bytes_in t) (λ k. option_map_or (λ s. bytes_size t (1 + k, s)) (slice_get t.segments k) 0) (length t.segments)
    (λ k. let e : k + 1 ≡ 1 + k = omega arith in ap (λ (j : ℕ). option_map_or (λ s. bytes_size t (j, s)) (slice_get t.segments k) 0) e)
    ∙ sym (numbered_sum (bytes_size t) 1 t.segments)

less_bytes : (t : Tables) (m : ℕ) (s : Segment) → bytes_size t (m, s) ≤ segment_size s
less_bytes t m s = by (same_kind (segment_kind t m s) Zero)
  where
    by : (b : Bool) → cond b 0 (segment_size s) ≤ segment_size s
    by true = omega arith
    by false = omega arith

less_all : (t : Tables) (m : ℕ) (xs : List Segment) → sum_by (bytes_size t) (enumerate_from m xs) ≤ sum_by segment_size xs
less_all t m [] = omega arith
less_all t m (s ∷ xs) =
    let one = less_bytes t m s in
    let rest = less_all t (m + 1) xs in
    let left = sum_by-cons (bytes_size t) (m, s) (enumerate_from (m + 1) xs) in
    let right = sum_by-cons segment_size s xs in
    omega (arith, one, rest, left, right)

-- they are few
pub few_bytes : (t : Tables) (d : Defined) → IsDefined t d → all_bytes t ≤ 2147483648
unfolding all_bytes
few_bytes t d is =
    let less = less_all t 1 t.segments in
    let few = is.sizes_few in
    let same = is.sizes_are in
    omega (arith, less, few, same)

-- of the first, no more
pub sum_less : (f : ℕ → ℕ) (i n : ℕ) → i ≤ n → sum_upto f i ≤ sum_upto f n
sum_less f i zero low = let none : i ≡ 0 = omega (arith, low) in rw none (omega arith)
sum_less f i (suc n) low = elim (cases_eq i (suc n)) [
  | inl same ↦ rw same (omega arith)
  | inr other ↦ let less = sum_less f i n (omega (arith, low, other)) in omega (arith, less)
]
