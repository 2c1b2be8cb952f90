-- Numbers in files: little endian, as all our formats have them.
use Rattle.std.specs.Prelude.{ℕ, List}
use Rattle.byteorder.specs.Endian.{little_from, little_bytes}

-- the number of the k bytes of b from a place on
unfoldable pub number_at : List ℕ → ℕ → ℕ → ℕ
number_at b at k = little_from at k b

-- the k bytes of a number, the lowest first
unfoldable pub bytes_of_number : ℕ → ℕ → List ℕ
bytes_of_number k x = little_bytes k x
