-- Our profile: what a read gives of a file.
use Rattle.std.specs.Prelude.{◌≡◌, ℕ, ◌-◌, ◌<◌, ◌≤◌, List, length, take, drop, Option, None, IsSomeAnd}
use Rattle.oc_outside.specs.Held.{Held, file_of}

-- the start of the buffer has n bytes of the file from `at` on, and n is 0 only at the end of the file or where the buffer is empty
pub record Reads (file : List ℕ) (at : ℕ) (buffer : List ℕ) (n : ℕ) : Type 0 where
  pub within : n ≤ length file - at
  pub bytes : take n buffer ≡ take n (drop at file)
  pub end : n ≡ 0 → 0 < length buffer → length file ≤ at

-- contracts see the files, and this one is not held
abbrev pub IsAbsent : List ℕ → Option Held → Type 0
IsAbsent name files = IsSomeAnd files (λ m. file_of name m ≡ None)

-- the bytes are a prefix of the file, and the whole of it where they are not longer than the limit
pub record IsWholeOrLonger (limit : ℕ) (bytes file : List ℕ) : Type 0 where
  pub front : bytes ≡ take (length bytes) file
  pub whole : length bytes ≤ limit → bytes ≡ file
