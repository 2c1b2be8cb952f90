-- What is at each number below a count (our profile).
use Rattle.std.specs.{Prelude.{◌≡◌, ℕ, ◌<◌, List, length, slice_index_or, Option, None, Some, if◌then◌else◌, bytes_eq}, List.{position_or_len}}
use Rattle.oc_base.specs.Strings.{is_given}

-- the slots have what a function gives to the numbers below n
pub record AreSlots (f : ℕ → Option ℕ) (n : ℕ) (slots : List (Option ℕ)) : Type 0 where
  pub long : length slots ≡ n
  pub each : (j : ℕ) → j < n → slice_index_or slots j None ≡ f j

-- the position of a key among those that are begun
abbrev pub place_in : List (List ℕ) → List ℕ → Option ℕ
place_in keys key = if is_given keys key then Some (position_or_len (bytes_eq key) keys) else None
