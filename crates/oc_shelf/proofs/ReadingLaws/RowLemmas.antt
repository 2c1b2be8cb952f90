-- Tables of entries of one size.
use Rattle.std.proofs.Common.{◌≡◌, ℕ, zero, suc, ◌+◌, ◌*◌, ◌<◌, ◌≤◌, List, length, Some, refl, ◌∙◌, ap, arith}
use Rattle.std.specs.Prelude.{slice_get}
use Rattle.oc_shelf.specs.Reading.Rows.{rows}

-- there are as many entries as were asked for
pub length-rows : {X : Type 0} (read : List ℕ → ℕ → X) (w : ℕ) (file : List ℕ) (at n : ℕ) → length (rows read w file at n) ≡ n
length-rows read w file at zero = refl
length-rows read w file at (suc n) = omega (arith, length-rows read w file (at + w) n)

-- entry k of a table
pub row_at : {X : Type 0} (read : List ℕ → ℕ → X) (w : ℕ) (file : List ℕ) (at n k : ℕ) → k < n → slice_get (rows read w file at n) k ≡ Some (read file (at + w * k))
row_at read w file at zero k low = absurd (omega arith)
row_at read w file at (suc n) zero low = let e : at ≡ at + w * 0 = omega arith in ap (λ p. Some (read file p)) e
row_at read w file at (suc n) (suc k) low =
    let e : at + w + w * k ≡ at + w * suc k = grind arith in
    row_at read w file (at + w) n k (omega (arith, low)) ∙ ap (λ p. Some (read file p)) e

-- it ends inside the table
pub row_inside : (w at n k : ℕ) → k < n → at + w * k + w ≤ at + w * n
row_inside w at n k low =
    let wide : w * suc k ≤ w * n = grind arith in
    let e : w * suc k ≡ w * k + w = grind arith in
    omega (arith, wide, e)
