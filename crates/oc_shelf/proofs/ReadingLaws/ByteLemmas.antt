-- Numbers, ranges and texts of bytes.
use Rattle.std.proofs.Common.{◌≡◌, ℕ, zero, suc, ◌+◌, ◌*◌, ◌<◌, ◌^◌, Bool, true, false, cond, eqb, get_or, List, [], ◌∷◌, drop, take, Option, None, Some, refl, subst, arith}
use Rattle.std.specs.{List.{AllByRecursion}, Option.{option_map}}
use Rattle.std.proofs.lemmas.Option.{none-some, same_Some}
use Rattle.oc_base.specs.Numbers.{number_at}
use Rattle.oc_shelf.specs.Reading.Texts.{text_within}

-- what k bytes can count
abbrev pub room : ℕ → ℕ
room zero = 1
room (suc k) = 256 * room k

pub byte_at : (xs : List ℕ) → AllByRecursion (λ x. x < 2 ^ 8) xs → (i : ℕ) → get_or xs i 0 < 256
byte_at [] all i = omega arith
byte_at (x ∷ xs) all zero = let low = all.0 in omega (arith, low)
byte_at (x ∷ xs) all (suc i) = byte_at xs all.1 i

number_more : (file : List ℕ) (at k : ℕ) → number_at file at (suc k) ≡ get_or file at 0 + 256 * number_at file (suc at) k
unfolding number_at
number_more file at k = refl

number_none : (file : List ℕ) (at : ℕ) → number_at file at 0 ≡ 0
unfolding number_at
number_none file at = refl

pub number_small : (file : List ℕ) → AllByRecursion (λ x. x < 2 ^ 8) file → (at k : ℕ) → number_at file at k < room k
number_small file bytes at zero = let none = number_none file at in omega (arith, none)
number_small file bytes at (suc k) =
    let low : get_or file at 0 < 256 = byte_at file bytes at in
    let rest = number_small file bytes (suc at) k in
    let more = number_more file at k in
    omega (arith, low, rest, more)

-- what holds of all bytes holds of those in a part of them
pub all_drop : (P : ℕ → Type 0) (n : ℕ) (xs : List ℕ) → AllByRecursion P xs → AllByRecursion P (drop n xs)
all_drop P zero xs all = all
all_drop P (suc n) [] all = tt
all_drop P (suc n) (x ∷ xs) all = all_drop P n xs all.1

pub all_take : (P : ℕ → Type 0) (n : ℕ) (xs : List ℕ) → AllByRecursion P xs → AllByRecursion P (take n xs)
all_take P zero xs all = tt
all_take P (suc n) [] all = tt
all_take P (suc n) (x ∷ xs) all = (all.0, all_take P n xs all.1)

pub all_text : (P : ℕ → Type 0) (xs text : List ℕ) → AllByRecursion P xs → text_within xs ≡ Some text → AllByRecursion P text
all_text P [] text all e = absurd (none-some text e)
all_text P (x ∷ xs) text all e = by (eqb x 0) (text_within xs) (λ rest. all_text P xs rest all.1) e
  where
    by : (b : Bool) (o : Option (List ℕ)) → ((rest : List ℕ) → o ≡ Some rest → AllByRecursion P rest) → cond b (Some []) (option_map (λ text. x ∷ text) o) ≡ Some text → AllByRecursion P text
    by true o rest g = subst (AllByRecursion P) (same_Some [] text g) tt
    by false None rest g = absurd (none-some text g)
    by false (Some r) rest g = subst (AllByRecursion P) (same_Some (x ∷ r) text g) (all.0, rest r refl)
