-- What fields and addends promise each other (our profile, addends in place).
use Rattle.std.specs.Prelude.{◌≡◌, ℕ, ◌/◌, ◌%◌, ◌^◌, ◌<◌, ◌≤◌, ℤ, ◌+ℤ◌, ◌*ℤ◌, ◌≤ℤ◌, ◌<ℤ◌, pos, neg_ℤ, Some, Ok, MatchResult}
use Rattle.oc_base.specs.declared.format.Word.{Word}
use Rattle.oc_linking.specs.{declared.terms.Width.{Width}, declared.terms.Check.{Check}, Numbers.{modulus}, Fits.{span, half, bytes_of, stored, fits_signed}}
use Rattle.oc_algebra.specs.{Residues.{half_modulus, residue_of, reduced_number, is_signed_in}, Fields.{from_field_of, to_field_of}}

-- z is the representative of n: it lies from -2^(W-1) to 2^(W-1) - 1, and n is z and a multiple of 2^W
pub record Represents (w : Word) (n z : ℤ) : Type 0 where
  pub above : neg_ℤ (pos (half_modulus w)) ≤ℤ z
  pub below : z <ℤ pos (half_modulus w)
  pub multiple : (q : ℤ) × (n ≡ z +ℤ q *ℤ pos (modulus w))

-- the field holds the reduced addend
abbrev pub Holds : Word → Width → ℤ → ℤ → ℕ → Type 0
Holds w k shift a f = (f < span k) × (from_field_of w k shift f ≡ reduced_number w a)

-- the field that is written for an addend holds it, and an addend is refused only where no field holds it
abbrev pub Written : Word → Width → ℤ → ℤ → Type 0
Written w k shift a = MatchResult (to_field_of w k shift a) (Holds w k shift a) (λ e. (f : ℕ) → Holds w k shift a f → ⊥)

-- a field no wider than the word is written again as it was read
abbrev pub ReadAgain : Word → Width → ℤ → ℕ → Type 0
ReadAgain w k shift f = f < span k → span k ≤ modulus w → to_field_of w k shift (from_field_of w k shift f) ≡ Ok f

-- the bytes of the field are those that linking stores of the residue
abbrev pub IsStored : Width → Check → ℕ → ℕ → Type 0
IsStored k check r f = (back : ℕ) → back < bytes_of k → stored back (record { width = k; check = check; residue = r }) ≡ Some (f / 256 ^ back % 256)

-- a residue fits as a signed number exactly where its representative from -2^(W-1) to 2^(W-1) - 1 is a signed number of the width
abbrev pub SignedAgrees : Word → Width → ℤ → Type 0
SignedAgrees w k n = fits_signed w k (residue_of w n) ≡ is_signed_in (half k) (reduced_number w n)
