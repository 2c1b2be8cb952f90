-- Our profile: texts that grow at their end, where contracts see them.
use Rattle.std.specs.{Prelude.{◌≡◌, ℕ, ◌≤◌, List, ◌++◌, length, take, Option}, Option.{option_map}}

-- the text with this piece at its end, where contracts see it
unfoldable pub grown : List ℕ → Option (List ℕ) → Option (List ℕ)
grown piece text = option_map (λ bytes. bytes ++ piece) text

-- the text grew by some prefix of these bytes
abbrev pub TakesPrefix : List ℕ → Option (List ℕ) → Option (List ℕ) → Type 0
TakesPrefix bytes before now = (k : ℕ) × (k ≤ length bytes) × (now ≡ grown (take k bytes) before)

-- the other text and its count stay
pub record LeavesOther (before now : Option (List ℕ)) (count_before count_now : ℕ) : Type 0 where
  pub text : now ≡ before
  pub count : count_now ≡ count_before
