-- What callers see of a string table, and what a name in its bytes is (our profile's canonical ELF, COFF and Mach-O files).
use Rattle.std.specs.{Prelude.{◌≡◌, ℕ, ◌+◌, ◌-◌, ◌^◌, List, Option, Some, length, map, min, slice_get, slice_range}, Option.{option_map}}
use denote.Ref.{Bor}
use Rattle.oc_base.specs.Strings.{table_place}

-- a string table: where in the file's table its first text lies, and the names that were given, in their order
pub record StringTable : Type 0 where
  pub head : ℕ
  pub names : List (List ℕ)

-- the texts that slices hold
abbrev pub texts : List (Bor (List ℕ)) → List (List ℕ)
texts slices = map (λ slice. slice.now) slices

-- the bytes have the name at the place, and a NUL right after it
pub record StandsAt (name bytes : List ℕ) (at : ℕ) : Type 0 where
  pub there : slice_range bytes at (at + length name) ≡ name
  pub ended : slice_get bytes (at + length name) ≡ Some 0

-- a number, or the largest of 64 bits where it passes that
abbrev pub capped : ℕ → ℕ
capped n = min n (2 ^ 64 - 1)

-- where a name lies in the table of these names, if it is one of them, with no limit on their lengths
abbrev pub offset_of : ℕ → List (List ℕ) → List ℕ → Option ℕ
offset_of head names name = option_map capped (table_place head names name)
