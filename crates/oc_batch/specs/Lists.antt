-- The text of a list, and its jobs (our profile).
use Rattle.std.specs.{Prelude.{◌≤◌, ◌<◌, ℕ, Bool, not, nat_eq, List, length, map, filter}, List.{slice_split}, Str.{IsUtf8}}

-- something is in the list
abbrev pub is_filled : {X : Type 0} → List X → Bool
is_filled xs = not (nat_eq (length xs) 0)

-- the words of a line: blanks, bytes 20, part them, and nothing else does
abbrev pub words_in : List ℕ → List (List ℕ)
words_in line = filter is_filled (slice_split (λ b. nat_eq b 32) line)

-- the lines of a text: a newline, a byte 0A, ends each but the last one, which may be empty
abbrev pub lines_in : List ℕ → List (List ℕ)
lines_in text = slice_split (λ b. nat_eq b 10) text

-- the jobs of a text: the words of each line that has a word
unfoldable pub jobs_in : List ℕ → List (List (List ℕ))
jobs_in text = filter is_filled (map words_in (lines_in text))

-- the bytes are more than an input may have
abbrev pub IsLong : List ℕ → Type 0
IsLong b = 67108864 < length b

-- they are not, and are no text
abbrev pub IsNoText : List ℕ → Type 0
IsNoText b = (length b ≤ 67108864) × ¬ (IsUtf8 b)

-- they are not, and are a text
abbrev pub IsText : List ℕ → Type 0
IsText b = (length b ≤ 67108864) × IsUtf8 b
