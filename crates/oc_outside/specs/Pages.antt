-- Our profile: bytes in memory that grow within their room.
use Rattle.std.specs.Prelude.{ℕ, ◌+◌, Bool, List, length, nat_lt}

-- bytes, and how many there is room for
pub record PageState : Type 0 where
  pub bytes : List ℕ
  pub room : ℕ

-- whether a piece of this length would pass the room
abbrev pub passes_room : ℕ → List ℕ → ℕ → Bool
passes_room room bytes len = nat_lt room (length bytes + len)
