-- What a constant leaves in its field, beside the definitions of linking.
use Rattle.std.proofs.Common.{◌≡◌, ℕ, zero, suc, ◌+◌, ◌-◌, ◌*◌, ◌/◌, ◌%◌, ◌^◌, ◌<◌, refl, arith, true, nat_lt}
use Rattle.std.specs.Prelude.{ℤ}
use Rattle.std.proofs.{Math.Nat.{pow-suc}, Math.Pow.{field, mod-mod-pow}}
use Rattle.std.proofs.lemmas.{Nat.{pow-add}, Bool.Decides.{nat_tests}}
use borrow.Author.Differences.{ints}
use Rattle.oc_base.specs.{declared.format.Word.{Word}, declared.format.Word.TheVariants.{W32, W64}}
use Rattle.oc_linking.specs.{declared.terms.Width.{Width}, declared.terms.Width.TheVariants.{One, Two, Four, Eight}, declared.terms.Check.{Check}}
use Rattle.oc_linking.specs.Fits.{bytes_of}
use Rattle.oc_algebra.specs.{Residues.{residue_of, reduced_number}, Folds.{low_of}, Promises.{IsStored, SignedAgrees}}

-- powers of 256 are powers of two
pow-256 : (k : ℕ) → 256 ^ k ≡ 2 ^ (8 * k)
pow-256 zero = refl
pow-256 (suc k) = let e : 8 * suc k ≡ 8 * k + 8 = omega arith in rw (pow-suc 256 k, pow-256 k, e, pow-add 2 (8 * k) 8) refl

-- a byte of the low bytes is that byte of the number; i bytes stand above it
low-byte : (r i back j : ℕ) → j ≡ 8 * i + 8 + 8 * back → r % 2 ^ j / 256 ^ back % 256 ≡ r / 256 ^ back % 256
low-byte r i back j e = rw (e, pow-256 back, field r (8 * i + 8) (8 * back)) (mod-mod-pow (r / 2 ^ (8 * back)) (8 * i) 8)

-- the bytes of the low bytes of a residue are its own
pub low_of-byte : (k : Width) (r back : ℕ) → back < bytes_of k → low_of k r / 256 ^ back % 256 ≡ r / 256 ^ back % 256
low_of-byte One r back l = low-byte r (0 - back) back 8 (omega arith)
low_of-byte Two r back l = low-byte r (1 - back) back 16 (omega arith)
low_of-byte Four r back l = low-byte r (3 - back) back 32 (omega arith)
low_of-byte Eight r back l = low-byte r (7 - back) back 64 (omega arith)

-- linking stores of a residue the bytes of its field
pub stored_law : (k : Width) (check : Check) (r : ℕ) → IsStored k check r (low_of k r)
stored_law k check r back l = let e : nat_lt back (bytes_of k) ≡ true = grind (arith, nat_tests) in rw (e, low_of-byte k r back l) refl

-- the representative of a residue from -2^(W-1) on fits the width exactly where linking says that the residue does
pub fits_signed-is : (w : Word) (k : Width) (n : ℤ) → SignedAgrees w k n
unfolding residue_of reduced_number
fits_signed-is W32 One n = grind (arith, ints, nat_tests)
fits_signed-is W32 Two n = grind (arith, ints, nat_tests)
fits_signed-is W32 Four n = grind (arith, ints, nat_tests)
fits_signed-is W32 Eight n = grind (arith, ints, nat_tests)
fits_signed-is W64 One n = grind (arith, ints, nat_tests)
fits_signed-is W64 Two n = grind (arith, ints, nat_tests)
fits_signed-is W64 Four n = grind (arith, ints, nat_tests)
fits_signed-is W64 Eight n = grind (arith, ints, nat_tests)
