-- Names in string tables and in headers.
use Rattle.std.proofs.Common.{◌≡◌, ℕ, zero, suc, ◌+◌, ◌-◌, ◌*◌, ◌<◌, ◌≤◌, ◌^◌, Bool, true, false, cond, List, [], ◌∷◌, length, take, get_or, None, Some, refl, sym, ◌∙◌, ap, arith}
use Rattle.std.specs.{Prelude.{nat_eq, nat_lt}, List.{list_all, position, position_or_len, before_first}}
use Rattle.std.proofs.Math.Nat.{pow-le-pow_right, pow-suc}
use Rattle.std.proofs.lemmas.{Bool.Decides.{nat_tests}, List.{take_more, take_all}, List.Sums.{fold-append}, Option.{none-some, same_Some}, Bool.{and_parts}}
use Rattle.oc_coff.specs.Names.{is_digit, decimal_of}

-- ... before the first NUL

abbrev nul_at : List ℕ → ℕ
nul_at xs = position_or_len (λ c. nat_eq c 0) xs

pub before_nul : (xs : List ℕ) (end : ℕ) → position (λ c. nat_eq c 0) xs ≡ Some end → take end xs ≡ before_first (λ c. nat_eq c 0) xs
before_nul xs end is = by (nat_lt (nul_at xs) (length xs)) is
  where
    by : (b : Bool) → cond b (Some (nul_at xs)) None ≡ Some end → take end xs ≡ take (nul_at xs) xs
    by true e = ap (λ (n : ℕ). take n xs) (sym (same_Some (nul_at xs) end e))
    by false e = absurd (none-some end e)

pub no_nul : (xs : List ℕ) → position (λ c. nat_eq c 0) xs ≡ None → xs ≡ before_first (λ c. nat_eq c 0) xs
no_nul xs is = by (nat_lt (nul_at xs) (length xs)) refl is
  where
    by : (b : Bool) → nat_lt (nul_at xs) (length xs) ≡ b → cond b (Some (nul_at xs)) None ≡ None → xs ≡ take (nul_at xs) xs
    by true h e = absurd (none-some (nul_at xs) (sym e))
    by false h e = let past : length xs ≤ nul_at xs = grind (arith, nat_tests) in sym (take_all (nul_at xs) xs past)

-- ... decimal numbers

-- the number of the first k digits
pub record IsDecimal (digits : List ℕ) (k number : ℕ) : Type 0 where
  pub is : number ≡ decimal_of (take k digits)
  pub low : number < 10 ^ k

pub digit_there : (digits : List ℕ) (k d : ℕ) → list_all is_digit digits ≡ true → k < length digits → is_digit (get_or digits k d) ≡ true
digit_there [] k d all low = absurd (omega arith)
digit_there (c ∷ digits) zero d all low = (and_parts (is_digit c) (list_all is_digit digits) all).0
digit_there (c ∷ digits) (suc k) d all low = digit_there digits k d (and_parts (is_digit c) (list_all is_digit digits) all).1 (omega arith)

-- a number of up to seven digits is small
pub decimal_small : (digits : List ℕ) (k number : ℕ) → IsDecimal digits k number → k ≤ 7 → number < 10000000
decimal_small digits k number is few = let wide : 10 ^ k ≤ 10 ^ 7 = pow-le-pow_right (omega arith) few in let low = is.low in omega (arith, wide, low)

-- one digit more
pub decimal_more : (digits : List ℕ) (k number d x : ℕ) → IsDecimal digits k number → k < length digits → x ≡ get_or digits k d - 48 → x ≤ 9 → IsDecimal digits (k + 1) (number * 10 + x)
decimal_more digits k number d x is low value few = record {
  is = sym (ap decimal_of (take_more digits k d low) ∙ fold-append (λ n c. n * 10 + (c - 48)) 0 (take k digits) (get_or digits k d ∷ [])
      ∙ ap (λ (n : ℕ). n * 10 + (get_or digits k d - 48)) (sym is.is) ∙ ap (λ (n : ℕ). number * 10 + n) (sym value));
  low = let e : k + 1 ≡ suc k = omega arith in let wide : 10 ^ (k + 1) ≡ 10 ^ k * 10 = ap (λ (n : ℕ). 10 ^ n) e ∙ pow-suc 10 k in let below = is.low in omega (arith, wide, below, few);
}
