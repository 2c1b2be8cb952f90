-- The decimal digits of a number, put one by one.
use Rattle.std.proofs.Common.{◌≡◌, ℕ, ◌+◌, ◌/◌, ◌%◌, ◌^◌, ◌<◌, ◌≤◌, List, [], ◌∷◌, ◌++◌, length, sym, ◌∙◌, ap, arith, append_assoc, length-append}
use Rattle.std.specs.Prelude.{decimal}
use Rattle.std.proofs.lemmas.Fmt.{decimal_step, decimal_digit, length-decimal-le}
use Rattle.oc_neutral.specs.declared.coff.TheConstants.{MOST_NAME_OFFSET}

-- an offset of the string table has up to seven digits
pub offset_long : (n : ℕ) → n ≤ MOST_NAME_OFFSET → length (decimal n) ≤ 7
offset_long n le = length-decimal-le 7 n (omega arith) (omega (arith, le)) (omega (arith, le))

-- one digit
pub one_long : (n : ℕ) → n < 10 → length (decimal n) ≡ 1
one_long n few = ap length (decimal_digit n few)

pub one_put : (old new : List ℕ) (n : ℕ) → n < 10 → new ≡ old ++ (48 + n) ∷ [] → new ≡ old ++ decimal n
one_put old new n few put = put ∙ ap (λ ds. old ++ ds) (sym (decimal_digit n few))

-- more digits, and the last
pub more_long : (n : ℕ) → 10 ≤ n → n < 2 ^ 64 → length (decimal n) ≡ length (decimal (n / 10)) + 1
more_long n some small = ap length (decimal_step n some small) ∙ length-append (decimal (n / 10)) ((48 + n % 10) ∷ [])

pub more_put : (old mid new : List ℕ) (n : ℕ) → 10 ≤ n → n < 2 ^ 64 → mid ≡ old ++ decimal (n / 10) → new ≡ mid ++ (48 + n % 10) ∷ [] → new ≡ old ++ decimal n
more_put old mid new n some small front last =
    last ∙ ap (λ xs. xs ++ (48 + n % 10) ∷ []) front ∙ append_assoc old (decimal (n / 10)) ((48 + n % 10) ∷ []) ∙ ap (λ ds. old ++ ds) (sym (decimal_step n some small))
