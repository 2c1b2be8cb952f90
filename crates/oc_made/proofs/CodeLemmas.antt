-- The code: its length, its bytes, and the zeros under the fields.
use Rattle.std.proofs.Common.{◌≡◌, ℕ, zero, suc, ◌+◌, ◌*◌, ◌%◌, ◌^◌, ◌<◌, length, get_or, refl, ◌∙◌, ap, arith}
use Rattle.std.proofs.lemmas.List.FromFn.{length-map-range_with_len, get_or-map-range_with_len}
use Rattle.oc_neutral.specs.Invariants.{AreBytes}
use Rattle.oc_made.specs.Functions.{code_byte, code_of, function_bytes}
use Rattle.oc_made.proofs.Lists.{all_get_or, all_range}

pub length-code_of : (count : ℕ) → length (code_of count) ≡ 16 * count
unfolding code_of
length-code_of count = length-map-range_with_len code_byte 0 (16 * count)

-- the bytes of a function are bytes
function_fits : AreBytes function_bytes
function_fits =
    (omega arith, (omega arith, (omega arith, (omega arith, (omega arith, (omega arith, (omega arith, (omega arith, (omega arith, (omega arith, (omega arith, (omega arith, (omega arith, (omega arith, (omega arith, (omega arith, tt))))))))))))))))

pub code_bytes : (count : ℕ) → AreBytes (code_of count)
unfolding code_of
code_bytes count = all_range (λ x. x < 2 ^ 8) code_byte 0 (16 * count) (λ k l. all_get_or (λ x. x < 2 ^ 8) function_bytes (k % 16) 0 function_fits (omega arith))

-- byte k
pub code_at : (count k : ℕ) → k < 16 * count → get_or (code_of count) k 0 ≡ code_byte k
unfolding code_of
code_at count k low = let z : 0 + k ≡ k = omega arith in get_or-map-range_with_len code_byte 0 (16 * count) k k 0 low z

-- zeros stand under the first field
pub first_blank : (count i j : ℕ) → i < count → j < 4 → get_or (code_of count) (16 * i + 1 + j) 0 ≡ 0
first_blank count i j low few =
    let rest : (16 * i + 1 + j) % 16 ≡ 1 + j = omega (arith, few) in
    code_at count (16 * i + 1 + j) (omega (arith, low, few)) ∙ ap (λ k. get_or function_bytes k 0) rest ∙ by j few
  where
    by : (j : ℕ) → j < 4 → get_or function_bytes (1 + j) 0 ≡ 0
    by zero l = refl
    by (suc zero) l = refl
    by (suc (suc zero)) l = refl
    by (suc (suc (suc zero))) l = refl
    by (suc (suc (suc (suc j)))) l = absurd (omega (arith, l))

-- and under the second
pub second_blank : (count i j : ℕ) → i < count → j < 4 → get_or (code_of count) (16 * i + 6 + j) 0 ≡ 0
second_blank count i j low few =
    let rest : (16 * i + 6 + j) % 16 ≡ 6 + j = omega (arith, few) in
    code_at count (16 * i + 6 + j) (omega (arith, low, few)) ∙ ap (λ k. get_or function_bytes k 0) rest ∙ by j few
  where
    by : (j : ℕ) → j < 4 → get_or function_bytes (6 + j) 0 ≡ 0
    by zero l = refl
    by (suc zero) l = refl
    by (suc (suc zero)) l = refl
    by (suc (suc (suc zero))) l = refl
    by (suc (suc (suc (suc j)))) l = absurd (omega (arith, l))
