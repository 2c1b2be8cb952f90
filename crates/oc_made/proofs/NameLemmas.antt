-- The names of the symbols: their bytes, their lengths, and that they differ.
use Rattle.std.proofs.Common.{◌≡◌, ℕ, ◌+◌, ◌%◌, ◌^◌, ◌<◌, ◌≤◌, false, List, [], ◌∷◌, length, refl, arith}
use Rattle.std.specs.{Prelude.{nat_eq}, Fmt.{decimal}, List.{AllByRecursion}}
use Rattle.std.proofs.lemmas.{Bool.{ne_eqb}, Fmt.{decimal_by_steps, decimal_injective, length-decimal-le}}
use Rattle.oc_neutral.specs.{Invariants.{AreBytes}, KindRules.{has_nul}}
use Rattle.oc_made.proofs.Lists.{all_joined}

-- digits in a text
abbrev AreDigits : List ℕ → Type 0
AreDigits ds = AllByRecursion (λ d. (48 ≤ d) × (d < 58)) ds

-- a number is written in digits
decimal_digits : (n : ℕ) → n < 2 ^ 64 → AreDigits (decimal n)
decimal_digits n low =
    decimal_by_steps (λ k ds. AreDigits ds)
    (λ k l. ((omega arith, omega arith), tt))
    (λ k ds l ours. all_joined (λ d. (48 ≤ d) × (d < 58)) ds ((48 + k % 10) ∷ []) ours ((omega arith, omega arith), tt))
    n low

digits_bytes : (ds : List ℕ) → AreDigits ds → AreBytes ds
digits_bytes [] a = tt
digits_bytes (d ∷ ds) a = let l : d < 58 = a.0.1 in (omega (arith, l), digits_bytes ds a.1)

digits_uncut : (ds : List ℕ) → AreDigits ds → has_nul ds ≡ false
digits_uncut [] a = refl
digits_uncut (d ∷ ds) a =
    let l : 48 ≤ d = a.0.0 in
    let other : nat_eq 0 d ≡ false = ne_eqb 0 d (λ e. omega (arith, e, l)) in
    rw other (digits_uncut ds a.1)

module _ (n : ℕ) (low : n < 100000) where
  fits : n < 2 ^ 64
  fits = omega (arith, low)

  -- a number of a symbol is written in bytes
  pub number_bytes : AreBytes (decimal n)
  number_bytes = digits_bytes (decimal n) (decimal_digits n fits)

  -- without a NUL
  pub number_uncut : has_nul (decimal n) ≡ false
  number_uncut = digits_uncut (decimal n) (decimal_digits n fits)

  -- in five digits
  pub number_short : length (decimal n) ≤ 5
  number_short = let l : n < 10 ^ 5 = omega (arith, low) in length-decimal-le 5 n (omega arith) l fits

-- two numbers are written in two ways
pub numbers_differ : (m n : ℕ) → m < 100000 → n < 100000 → decimal m ≡ decimal n → m ≡ n
numbers_differ m n l k e = decimal_injective m n (omega (arith, l)) (omega (arith, k)) e
