-- Laws of residues, for the values of relocations.
use Rattle.std.proofs.Common.{◌≡◌, ℕ, ◌+◌, ◌/◌, ◌%◌, ◌<◌, sym, ◌∙◌, ap, arith, true}
use Rattle.std.specs.Prelude.{ℤ, pos, ◌+ℤ◌, ◌-ℤ◌, ◌*ℤ◌}
use borrow.Author.Differences.{up, down, ints}
use Rattle.std.proofs.lemmas.Bool.Decides.{nat_tests}
use Rattle.oc_base.specs.{declared.format.Word.{Word}, declared.format.Word.TheVariants.{W32, W64}}
use Rattle.oc_linking.specs.Numbers.{modulus, minus}
use Rattle.oc_algebra.specs.{Residues.{residue_of, reduced_number, signed_of, half_modulus, is_signed_in}, Promises.{Represents}}

-- the residue of a sum
pub residue_add : (w : Word) (a b : ℤ) → residue_of w (a +ℤ b) ≡ (residue_of w a + residue_of w b) % modulus w
unfolding residue_of
residue_add W32 a b = omega (arith, ints)
residue_add W64 a b = omega (arith, ints)

-- the residue of a number less another from 0 on
pub residue_less : (w : Word) (a : ℤ) (n : ℕ) → residue_of w (a -ℤ pos n) ≡ minus w (residue_of w a) n
unfolding residue_of
residue_less W32 a n = omega (arith, ints)
residue_less W64 a n = omega (arith, ints)

-- the residue of a number from 0 on
pub residue_nat : (w : Word) (n : ℕ) → residue_of w (pos n) ≡ n % modulus w
unfolding residue_of
residue_nat W32 n = omega (arith, ints)
residue_nat W64 n = omega (arith, ints)

-- a residue is below the modulus
pub residue_small : (w : Word) (n : ℤ) → residue_of w n < modulus w
unfolding residue_of
residue_small W32 n = omega (arith, ints)
residue_small W64 n = omega (arith, ints)

-- reducing a number keeps its residue
pub residue_reduced : (w : Word) (n : ℤ) → residue_of w (reduced_number w n) ≡ residue_of w n
unfolding residue_of reduced_number
residue_reduced W32 n = grind (arith, ints, nat_tests)
residue_reduced W64 n = grind (arith, ints, nat_tests)

-- numbers of one residue reduce to one number
pub reduced_same : (w : Word) (a b : ℤ) → residue_of w a ≡ residue_of w b → reduced_number w a ≡ reduced_number w b
unfolding reduced_number
reduced_same w a b e = ap (signed_of w) e

-- a reduced number is reduced
pub reduced_reduced : (w : Word) (n : ℤ) → reduced_number w (reduced_number w n) ≡ reduced_number w n
reduced_reduced w n = reduced_same w (reduced_number w n) n (residue_reduced w n)

-- a reduced number lies from -2^(W-1) to 2^(W-1) - 1
pub reduced_held : (w : Word) (n : ℤ) → is_signed_in (half_modulus w) (reduced_number w n) ≡ true
unfolding residue_of reduced_number
reduced_held W32 n = grind (arith, ints, nat_tests)
reduced_held W64 n = grind (arith, ints, nat_tests)

-- the residue of an addend to which an offset is added
pub residue_moved : (w : Word) (a : ℤ) (n : ℕ) → residue_of w (reduced_number w (a +ℤ pos n)) ≡ (residue_of w a + n % modulus w) % modulus w
residue_moved w a n = residue_reduced w (a +ℤ pos n) ∙ residue_add w a (pos n) ∙ ap (λ x. (residue_of w a + x) % modulus w) (residue_nat w n)

-- the residue of a reduced sum
pub residue_shifted : (w : Word) (a s : ℤ) → residue_of w (reduced_number w (a +ℤ s)) ≡ (residue_of w a + residue_of w s) % modulus w
residue_shifted w a s = residue_reduced w (a +ℤ s) ∙ residue_add w a s

-- less the own section p is less the place p + at, where the offset at is added
pub minus-own : (w : Word) (b r p at : ℕ) → minus w (b + (r + at % modulus w) % modulus w) (p + at) ≡ minus w (b + r) p
minus-own W32 b r p at = omega arith
minus-own W64 b r p at = omega arith

-- the difference of a section with itself is the addend's residue
pub minus-self : (w : Word) (b r : ℕ) → r < modulus w → minus w (b + r) b ≡ r
minus-self W32 b r small = omega arith
minus-self W64 b r small = omega arith

-- an address b that is a section's address a and an offset o counts as the section, where the offset is added
pub minus-place : (w : Word) (a b o r l : ℕ) → b % modulus w ≡ (a + o) % modulus w → minus w (a + (r + o % modulus w) % modulus w) l ≡ minus w (b + r) l
minus-place W32 a b o r l e = omega arith
minus-place W64 a b o r l e = omega arith

-- how many times the modulus two numbers of one residue differ
abbrev turns : Word → ℤ → ℤ → ℤ
turns w n z = pos ((up n + down z) / modulus w) -ℤ pos ((up z + down n) / modulus w)

-- numbers of one residue differ by a multiple of the modulus
same-multiple : (w : Word) (n z : ℤ) → residue_of w n ≡ residue_of w z → n ≡ z +ℤ turns w n z *ℤ pos (modulus w)
unfolding residue_of
same-multiple W32 n z e = omega (arith, ints)
same-multiple W64 n z e = omega (arith, ints)

-- a reduced number is the representative
pub represents_law : (w : Word) (n : ℤ) → Represents w n (reduced_number w n)
unfolding reduced_number residue_of
represents_law W32 n = record {
  above = grind (arith, ints, nat_tests);
  below = grind (arith, ints, nat_tests);
  multiple = (turns W32 n (reduced_number W32 n), same-multiple W32 n (reduced_number W32 n) (sym (residue_reduced W32 n)));
}
represents_law W64 n = record {
  above = grind (arith, ints, nat_tests);
  below = grind (arith, ints, nat_tests);
  multiple = (turns W64 n (reduced_number W64 n), same-multiple W64 n (reduced_number W64 n) (sym (residue_reduced W64 n)));
}
