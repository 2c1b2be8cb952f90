-- Bytes of numbers.
use Rattle.std.proofs.Common.{◌≡◌, ℕ, zero, suc, ◌+◌, ◌*◌, ◌/◌, ◌%◌, ◌^◌, bit_and, refl, sym, ◌∙◌, ap, arith}
use Rattle.std.proofs.Math.Nat.{pow-suc}
use Rattle.std.proofs.lemmas.{Nat.{pow-add, mod-pow-add}, Grind.{and_numeral}}

-- k bytes are 8 k bits
pub bits_of_bytes : (k : ℕ) → 2 ^ (8 * k) ≡ 256 ^ k
bits_of_bytes zero = refl
bits_of_bytes (suc k) =
    let e : 8 * suc k ≡ 8 * k + 8 = omega arith in
    ap (λ n. 2 ^ n) e ∙ pow-add 2 (8 * k) 8 ∙ ap (λ n. n * 2 ^ 8) (bits_of_bytes k) ∙ sym (pow-suc 256 k)

-- a byte by a shift
pub byte-by_shift : (x k : ℕ) → bit_and (x / 2 ^ (8 * k)) 255 ≡ x / 256 ^ k % 256
byte-by_shift x k = and_numeral (x / 2 ^ (8 * k)) 254 refl ∙ ap (λ n. x / n % 256) (bits_of_bytes k)

-- the lowest byte, and the rest
pub mod-byte : (n k : ℕ) → n % 256 ^ suc k ≡ (n / 256 % 256 ^ k) * 256 + n % 256
mod-byte n k =
    let e : 8 * suc k ≡ 8 * k + 8 = omega arith in
    ap (λ m. n % m) (sym (bits_of_bytes (suc k)) ∙ ap (λ i. 2 ^ i) e) ∙ mod-pow-add n (8 * k) 8 ∙ ap (λ m. (n / 256 % m) * 256 + n % 256) (bits_of_bytes k)
