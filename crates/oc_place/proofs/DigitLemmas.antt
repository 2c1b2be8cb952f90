-- Numbers of few digits fit their type.
use Rattle.std.proofs.Common.{ℕ, ◌+◌, ◌*◌, ◌^◌, ◌<◌, ◌≤◌, arith}
use Rattle.std.proofs.Math.Nat.{pow-le-pow_right}
use Rattle.std.proofs.lemmas.Grind.{pow_more}

-- one digit more of hexadecimal
pub hex_more : (n d i : ℕ) → n < 16 ^ i → d < 16 → 16 * n + d < 16 ^ (i + 1)
hex_more n d i low digit = let e = pow_more 16 i in omega (arith, e, low, digit)

pub hex_fits : (n d i : ℕ) → n < 16 ^ i → d < 16 → i < 16 → 16 * n + d < 2 ^ 64
hex_fits n d i low digit few =
    let cap : 16 ^ (i + 1) ≤ 16 ^ 16 = pow-le-pow_right {n = 16} (omega arith) {i = i + 1} {j = 16} (omega (arith, few)) in
    let m = hex_more n d i low digit in
    omega (arith, cap, m)

-- one decimal digit more
pub decimal_more : (n d i : ℕ) → n < 10 ^ i → d < 10 → 10 * n + d < 10 ^ (i + 1)
decimal_more n d i low digit = let e = pow_more 10 i in omega (arith, e, low, digit)
