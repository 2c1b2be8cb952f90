-- Indexes (TIS OMF 1.1, "Indexed References").
use Rattle.std.specs.Prelude.{ℕ, ◌+◌, ◌-◌, ◌*◌, ◌≤◌, List, length, nat_lt, if◌then◌else◌}
use Rattle.oc_base.specs.Numbers.{number_at}

-- the first byte of the index at a place
abbrev pub first_byte : List ℕ → ℕ → ℕ
first_byte b at = number_at b at 1

-- each byte of the index is present: one, or two where the first has its top bit set
abbrev pub HasIndex : List ℕ → ℕ → Type 0
HasIndex b at = (at + 1 ≤ length b) × (128 ≤ first_byte b at → at + 2 ≤ length b)

-- the index at a place, and the place after it
abbrev pub index_at : List ℕ → ℕ → ℕ × ℕ
index_at b at =
    if nat_lt (first_byte b at) 128
    then (first_byte b at, at + 1)
    else ((first_byte b at - 128) * 256 + number_at b (at + 1) 1, at + 2)
