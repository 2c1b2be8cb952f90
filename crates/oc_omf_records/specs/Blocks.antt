-- Iterated data (TIS OMF 1.1, "LIDATA: Logical Iterated Data Record").
use Rattle.std.specs.Prelude.{ℕ, zero, suc, ◌+◌, ◌*◌, ◌-◌, ◌&&◌, nat_le, if◌then◌else◌, List, [], ◌∷◌, ◌++◌, length, map, Option, Some, None, option_map}

-- blocks in a row: none; a block of content, whose bytes lie at a place of the encoded data, and the row after it; or a block of blocks and the row after it
pub data Blocks : Type 0 where
  none : Blocks
  content : (count : ℕ) (place : ℕ) (bytes : List ℕ) (rest : Blocks) → Blocks
  nested : (count : ℕ) (inside : Blocks) (rest : Blocks) → Blocks

-- a row, and after it another
abbrev pub append : Blocks → Blocks → Blocks
append none last = last
append (content count place bytes rest) last = content count place bytes (append rest last)
append (nested count inside rest) last = nested count inside (append rest last)

-- so many copies of some bytes
abbrev pub repeated : ℕ → List ℕ → List ℕ
repeated zero bytes = []
repeated (suc n) bytes = repeated n bytes ++ bytes

-- the bytes that a row stands for: of each block its content, or what its blocks stand for, repeated
abbrev pub denotation : Blocks → List ℕ
denotation none = []
denotation (content count place bytes rest) = repeated count bytes ++ denotation rest
denotation (nested count inside rest) = repeated count (denotation inside) ++ denotation rest

-- how many bytes those are
abbrev pub size_of : Blocks → ℕ
size_of none = 0
size_of (content count place bytes rest) = count * length bytes + size_of rest
size_of (nested count inside rest) = count * size_of inside + size_of rest

-- places, moved by a distance
abbrev pub moved : ℕ → List ℕ → List ℕ
moved by places = map (λ place. by + place) places

-- places in a piece of some size, and the same in each of so many copies of the piece
abbrev pub in_each : ℕ → ℕ → List ℕ → List ℕ
in_each zero size places = []
in_each (suc n) size places = in_each n size places ++ moved (n * size) places

-- where four bytes at an encoded place lie in the content of so many bytes at a place, if it holds them
abbrev pub in_content : ℕ → ℕ → ℕ → Option (List ℕ)
in_content at place size = if nat_le place at && nat_le (at + 4) (place + size) then Some ((at - place) ∷ []) else None

-- what is found in some blocks, of so many bytes, or else in those after them
abbrev pub found : Option (List ℕ) → ℕ → Option (List ℕ) → Option (List ℕ)
found (Some places) size later = Some places
found None size later = option_map (moved size) later

-- where the copies of the four content bytes at an encoded place lie among the bytes of a row, in ascending order; none where no content holds them
abbrev pub copies_of : Blocks → ℕ → Option (List ℕ)
copies_of none at = None
copies_of (content count place bytes rest) at =
    found (option_map (in_each count (length bytes)) (in_content at place (length bytes))) (count * length bytes) (copies_of rest at)
copies_of (nested count inside rest) at =
    found (option_map (in_each count (size_of inside)) (copies_of inside at)) (count * size_of inside) (copies_of rest at)
