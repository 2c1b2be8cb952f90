-- Signed numbers and their residues modulo 2^32 and 2^64 (our profile, values of relocations).
use Rattle.std.specs.Prelude.{ℕ, ◌+◌, ◌-◌, ◌%◌, ◌^◌, Bool, nat_lt, if◌then◌else◌, ℤ, pos, negsuc}
use borrow.Author.Differences.{up, down}
use Rattle.oc_base.specs.{declared.format.Word.{Word}, declared.format.Word.TheVariants.{W32, W64}}
use Rattle.oc_linking.specs.Numbers.{modulus}

-- half of the modulus
abbrev pub half_modulus : Word → ℕ
half_modulus W32 = 2 ^ 31
half_modulus W64 = 2 ^ 63

-- the number from 0 to m - 1 that differs from z by a multiple of m; z is `up z` less `down z`, one of which is 0
abbrev pub modulo : ℕ → ℤ → ℕ
modulo m z = (up z + (m - down z % m)) % m

-- the number from -h to m - h - 1 that differs from r, a number below m, by a multiple of m
abbrev pub centred : ℕ → ℕ → ℕ → ℤ
centred h m r = if nat_lt r h then pos r else negsuc (m - 1 - r)

-- z lies from -h to h - 1
abbrev pub is_signed_in : ℕ → ℤ → Bool
is_signed_in h (pos n) = nat_lt n h
is_signed_in h (negsuc n) = nat_lt n h

-- the residue of a number: its representative from 0 to 2^W - 1
unfoldable pub residue_of : Word → ℤ → ℕ
residue_of w n = modulo (modulus w) n

-- the representative of a residue from -2^(W-1) to 2^(W-1) - 1
abbrev pub signed_of : Word → ℕ → ℤ
signed_of w r = centred (half_modulus w) (modulus w) r

-- the representative of a number from -2^(W-1) to 2^(W-1) - 1
unfoldable pub reduced_number : Word → ℤ → ℤ
reduced_number w n = signed_of w (residue_of w n)
