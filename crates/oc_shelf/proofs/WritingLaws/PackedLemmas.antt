-- Packed numbers are read back where they stand.
use Rattle.std.proofs.Common.{◌≡◌, ℕ, zero, suc, ◌+◌, ◌^◌, ◌<◌, List, [], ◌∷◌, ◌++◌, length, get_or, take, refl, ◌∙◌, ap, arith, append_assoc, length-append}
use Rattle.std.specs.List.{AllByRecursion}
use Rattle.oc_base.specs.Numbers.{number_at, bytes_of_number}
use Rattle.oc_base.proofs.NumberLaws.{length-bytes_of_number, number_at-shift, number_at-bytes}
use Rattle.oc_shelf.specs.{Writing.Parts.{Stands}, Writing.Packed.{packed}}

-- each number fits its width
abbrev pub Fit : List (ℕ × ℕ) → Type 0
Fit numbers = AllByRecursion (λ (n : ℕ × ℕ). n.1 < 256 ^ n.0) numbers

-- the sum of the widths
abbrev pub widths : List (ℕ × ℕ) → ℕ
widths [] = 0
widths (n ∷ numbers) = n.0 + widths numbers

-- packed numbers are as long as their widths
pub length-packed : (numbers : List (ℕ × ℕ)) → length (packed numbers) ≡ widths numbers
length-packed [] = refl
length-packed (n ∷ numbers) = length-append (bytes_of_number n.0 n.1) (packed numbers)
    ∙ ap (λ k. k + length (packed numbers)) (length-bytes_of_number n.0 n.1) ∙ ap (λ k. n.0 + k) (length-packed numbers)

-- number i reads back
pub number_at-packed : (numbers : List (ℕ × ℕ)) (i at : ℕ) (rest : List ℕ) → Fit numbers → i < length numbers → at ≡ widths (take i numbers)
    → number_at (packed numbers ++ rest) at (get_or numbers i (0, 0)).0 ≡ (get_or numbers i (0, 0)).1
number_at-packed [] i at rest fit l e = absurd (omega arith)
number_at-packed (n ∷ numbers) zero at rest fit l e =
    ap (λ bytes. number_at bytes at n.0) (append_assoc (bytes_of_number n.0 n.1) (packed numbers) rest)
    ∙ ap (λ k. number_at (bytes_of_number n.0 n.1 ++ (packed numbers ++ rest)) k n.0) e
    ∙ number_at-bytes n.0 n.1 (packed numbers ++ rest) fit.0
number_at-packed (n ∷ numbers) (suc i) at rest fit l e =
    let k : ℕ = (get_or numbers i (0, 0)).0 in
    let past : at ≡ length (bytes_of_number n.0 n.1) + widths (take i numbers) = rw (length-bytes_of_number n.0 n.1) e in
    ap (λ bytes. number_at bytes at k) (append_assoc (bytes_of_number n.0 n.1) (packed numbers) rest)
    ∙ number_at-shift (bytes_of_number n.0 n.1) (packed numbers ++ rest) at (widths (take i numbers)) k past
    ∙ number_at-packed numbers i (widths (take i numbers)) rest fit.1 (omega arith) refl

-- where they stand
pub number_in : (file : List ℕ) (at : ℕ) (numbers : List (ℕ × ℕ)) (i p : ℕ) → Stands file at (packed numbers) → Fit numbers → i < length numbers
    → p ≡ at + widths (take i numbers) → number_at file p (get_or numbers i (0, 0)).0 ≡ (get_or numbers i (0, 0)).1
number_in file at numbers i p s fit l e =
    let k : ℕ = (get_or numbers i (0, 0)).0 in
    let past : p ≡ length s.front + widths (take i numbers) = omega (arith, e, s.place) in
    ap (λ zs. number_at zs p k) s.is
    ∙ number_at-shift s.front (packed numbers ++ s.back) p (widths (take i numbers)) k past
    ∙ number_at-packed numbers i (widths (take i numbers)) s.back fit l refl
