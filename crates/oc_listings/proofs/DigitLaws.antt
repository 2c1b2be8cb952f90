-- The digits of a number below 16 ^ k, with zeros first, are its last k digits.
use Rattle.std.proofs.Common.{◌≡◌, ℕ, zero, suc, ◌+◌, ◌-◌, ◌*◌, ◌/◌, ◌%◌, ◌^◌, ◌<◌, Bool, true, false, cond, eqb, List, [], ◌∷◌, ◌++◌, length, refl, sym, ◌∙◌, ap, arith, append-nil, append_assoc, length-append}
use Rattle.std.specs.{Prelude.{replicate}, Fmt.{digit_glyph, digits, digits_onto}}
use Rattle.std.proofs.lemmas.{Bool.{eqb-true}, Nat.{shr-shr}}
use Rattle.std.proofs.Math.Nat.{pow-suc}
use Rattle.oc_dump.specs.Lines.{hex}
use Rattle.oc_listings.specs.Digits.{last_digits}

-- the last digit of a number
abbrev pub last_digit : ℕ → ℕ
last_digit x = digit_glyph false (x % 16)

-- the digits that are written before others are written alone
before-others : (m x : ℕ) (others : List ℕ) → digits_onto m 16 false x others ≡ digits_onto m 16 false x [] ++ others
before-others zero x others = refl
before-others (suc m) x others = by (eqb (x / 16) 0) (before-others m (x / 16) (last_digit x ∷ others)) (before-others m (x / 16) (last_digit x ∷ []))
  where
    by : (t : Bool)
        → digits_onto m 16 false (x / 16) (last_digit x ∷ others) ≡ digits_onto m 16 false (x / 16) [] ++ last_digit x ∷ others
        → digits_onto m 16 false (x / 16) (last_digit x ∷ []) ≡ digits_onto m 16 false (x / 16) [] ++ last_digit x ∷ []
        → cond t (last_digit x ∷ others) (digits_onto m 16 false (x / 16) (last_digit x ∷ others)) ≡ cond t (last_digit x ∷ []) (digits_onto m 16 false (x / 16) (last_digit x ∷ [])) ++ others
    by true all one = refl
    by false all one =
        all ∙ sym (append_assoc (digits_onto m 16 false (x / 16) []) (last_digit x ∷ []) others) ∙ ap (λ ds. ds ++ others) (sym one)

-- a digit that is repeated, with one more at the end
one-more : (d k : ℕ) → replicate k d ++ d ∷ [] ≡ d ∷ replicate k d
one-more d zero = refl
one-more d (suc k) = ap (λ ds. d ∷ ds) (one-more d k)

-- the last digits of zero
last-zero : (k : ℕ) → last_digits k 0 ≡ replicate k 48
last-zero zero = refl
last-zero (suc k) = let zero-digit : ℕ = 48 in ap (λ ds. ds ++ zero-digit ∷ []) (last-zero k) ∙ one-more 48 k

-- the number has at most so many digits
abbrev HasDigits : ℕ → ℕ → Type 0
HasDigits zero x = x ≡ 0
HasDigits (suc k) x = HasDigits k (x / 16)

-- digits with zeros first, to that many
abbrev filled : ℕ → List ℕ → List ℕ
filled count ds = replicate (count - length ds) 48 ++ ds

-- one more digit at the end of filled digits
filled-more : (count g : ℕ) (ds : List ℕ) → filled (suc count) (ds ++ g ∷ []) ≡ filled count ds ++ g ∷ []
filled-more count g ds =
    let size : length (ds ++ g ∷ []) ≡ length ds + 1 = length-append ds (g ∷ []) in
    let left : suc count - (length ds + 1) ≡ count - length ds = omega arith in
    ap (λ n. replicate (suc count - n) 48 ++ (ds ++ g ∷ [])) size
    ∙ ap (λ n. replicate n 48 ++ (ds ++ g ∷ [])) left
    ∙ sym (append_assoc (replicate (count - length ds) 48) ds (g ∷ []))

-- the digits of a number that has at most so many
filled-last : (m k x : ℕ) → k < m → HasDigits (suc k) x → filled (suc k) (digits_onto m 16 false x []) ≡ last_digits (suc k) x
filled-last zero k x low has = absurd (omega (arith, low))
filled-last (suc m) zero x low has = ap (λ t. filled 1 (cond t (last_digit x ∷ []) (digits_onto m 16 false (x / 16) (last_digit x ∷ [])))) (ap (λ y. eqb y 0) has)
filled-last (suc m) (suc k) x low has = by (eqb (x / 16) 0) refl (filled-last m k (x / 16) (omega (arith, low)) has)
  where
    by : (t : Bool) → eqb (x / 16) 0 ≡ t → filled (suc k) (digits_onto m 16 false (x / 16) []) ≡ last_digits (suc k) (x / 16)
        → filled (suc (suc k)) (cond t (last_digit x ∷ []) (digits_onto m 16 false (x / 16) (last_digit x ∷ []))) ≡ last_digits (suc k) (x / 16) ++ last_digit x ∷ []
    by true is rest =
        let none : x / 16 ≡ 0 = eqb-true (x / 16) 0 is in
        filled-more (suc k) (last_digit x) [] ∙ ap (λ ds. ds ++ last_digit x ∷ []) (filled-none (suc k) ∙ sym (last-zero (suc k)) ∙ ap (last_digits (suc k)) (sym none))
      where
        filled-none : (count : ℕ) → filled count [] ≡ replicate count 48
        filled-none count = append-nil (replicate (count - 0) 48) ∙ ap (λ n. replicate n 48) (omega arith)
    by false is rest =
        ap (filled (suc (suc k))) (before-others m (x / 16) (last_digit x ∷ []))
        ∙ filled-more (suc k) (last_digit x) (digits_onto m 16 false (x / 16) [])
        ∙ ap (λ ds. ds ++ last_digit x ∷ []) rest

-- a number below 16 ^ k has at most k digits
has-digits : (k x : ℕ) → x < 16 ^ k → HasDigits k x
has-digits zero x low = omega (arith, low)
has-digits (suc k) x low = has-digits k (x / 16) (let more : 16 ^ suc k ≡ 16 ^ k * 16 = pow-suc 16 k in omega (arith, more, low))

-- a number below 16 ^ k in hexadecimal
hex-last : (k x : ℕ) → k < 64 → x < 16 ^ suc k → last_digits (suc k) x ≡ hex (suc k) x
unfolding hex digits
hex-last k x few low = sym (filled-last 64 k x few (has-digits (suc k) x low))

-- a number of a word
pub hex_32 : (x : ℕ) → x < 2 ^ 32 → last_digits 8 x ≡ hex 8 x
hex_32 x low = hex-last 7 x (omega arith) low

pub hex_64 : (x : ℕ) → x < 2 ^ 64 → last_digits 16 x ≡ hex 16 x
hex_64 x low = hex-last 15 x (omega arith) low

-- one more digit of a number that is shifted less
pub digits-more : (count done x : ℕ) → done < count
    → last_digits (done + 1) (x / 2 ^ (4 * (count - 1 - done))) ≡ last_digits done (x / 2 ^ (4 * (count - done))) ++ digit_glyph false (x / 2 ^ (4 * (count - 1 - done)) % 16) ∷ []
digits-more count done x more =
    let one : done + 1 ≡ suc done = omega arith in
    let shift : 4 * (count - 1 - done) + 4 ≡ 4 * (count - done) = omega (arith, more) in
    ap (λ n. last_digits n (x / 2 ^ (4 * (count - 1 - done)))) one
    ∙ ap (λ y. last_digits done y ++ digit_glyph false (x / 2 ^ (4 * (count - 1 - done)) % 16) ∷ []) (shr-shr x (4 * (count - 1 - done)) 4 ∙ ap (λ s. x / 2 ^ s) shift)
