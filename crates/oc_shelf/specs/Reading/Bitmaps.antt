-- Bytes that are taken, a bit for each (our profile).
use Rattle.std.specs.Prelude.{◌≡◌, ℕ, ◌*◌, ◌/◌, ◌%◌, ◌<◌, ◌≤◌, Bool, ◌&&◌, nat_eq, nat_le, nat_lt, true, false, List, length, Option, Some, slice_index_or}
use Rattle.std.specs.{Int.{bit_at}, Option.{option_map_or}}
use Rattle.oc_shelf.specs.Reading.Firsts.{any_upto}

-- how many bytes the words cover
abbrev pub room : List ℕ → ℕ
room words = 64 * length words

-- a byte is taken
abbrev pub has : List ℕ → ℕ → Bool
has words q = nat_eq (bit_at (slice_index_or words (q / 64) 0) (q % 64)) 1

-- a byte is one of those between two places
abbrev pub is_between : ℕ → ℕ → ℕ → Bool
is_between begin end q = nat_le begin q && nat_lt q end

-- no byte from a place on is taken
abbrev pub EndBy : ℕ → List ℕ → Type 0
EndBy top words = (q : ℕ) → has words q ≡ true → q < top

-- a byte between two places is taken
pub record IsMetIn (words : List ℕ) (begin end : ℕ) : Type 0 where
  pub at : ℕ
  pub from : begin ≤ at
  pub below : at < end
  pub there : has words at ≡ true

-- the bytes are those of the spans of the first n entries, each of which has a byte
pub record AreBytesOf (span : ℕ → Option (ℕ × ℕ)) (n : ℕ) (words : List ℕ) : Type 0 where
  pub taken : (q : ℕ) → has words q ≡ any_upto (λ j. option_map_or (λ x. is_between x.0 x.1 q) (span j) false) n
  pub some : (j begin end : ℕ) → j < n → span j ≡ Some (begin, end) → begin < end
