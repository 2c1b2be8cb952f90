-- What fits a field, and what is stored in it (i386 and x86-64 psABI, "Relocation Types"; PE/COFF, "Type Indicators"; else our profile).
use Rattle.std.specs.Prelude.{ℕ, ◌+◌, ◌/◌, ◌%◌, ◌^◌, Bool, true, ◌||◌, nat_lt, nat_le, if◌then◌else◌, Option, Some, None}
use Rattle.oc_base.specs.declared.format.Word.{Word}
use Rattle.oc_linking.specs.{declared.terms.Width.{Width}, declared.terms.Width.TheVariants.{One, Two, Four, Eight}, declared.terms.Check.{Check}}
use Rattle.oc_linking.specs.{declared.terms.Check.TheVariants.{Wrap, Signed, Unsigned, Either}, declared.terms.Patch.{Patch}, Numbers.{modulus}}

-- the bytes of a field
abbrev pub bytes_of : Width → ℕ
bytes_of One = 1
bytes_of Two = 2
bytes_of Four = 4
bytes_of Eight = 8

-- 2^w, for a field of w bits
abbrev pub span : Width → ℕ
span One = 2 ^ 8
span Two = 2 ^ 16
span Four = 2 ^ 32
span Eight = 2 ^ 64

-- 2^(w - 1), for a field of w bits
abbrev pub half : Width → ℕ
half One = 2 ^ 7
half Two = 2 ^ 15
half Four = 2 ^ 31
half Eight = 2 ^ 63

-- the representative from -2^(W-1) to 2^(W-1) - 1 lies from -2^(w-1) to 2^(w-1) - 1: r is below 2^(w-1), or at least 2^W - 2^(w-1)
abbrev pub fits_signed : Word → Width → ℕ → Bool
fits_signed w width r = nat_lt r (half width) || nat_le (modulus w) (r + half width)

-- the representative from 0 to 2^W - 1 lies from 0 to 2^w - 1
abbrev pub fits_unsigned : Width → ℕ → Bool
fits_unsigned width r = nat_lt r (span width)

-- a residue below 2^W fits a field of that width by its check
abbrev pub fits : Word → Width → Check → ℕ → Bool
fits w width Wrap r = true
fits w width Signed r = fits_signed w width r
fits w width Unsigned r = fits_unsigned width r
fits w width Either r = fits_signed w width r || fits_unsigned width r

-- byte number `back` of what a field stores, the lowest first, where the field has that many bytes
abbrev pub stored : ℕ → Patch → Option ℕ
stored back patch = if nat_lt back (bytes_of patch.width) then Some (patch.residue / 256 ^ back % 256) else None
