-- Our profile: the numbers of the calls on a device in memory, and the counts of those that fail.
use Rattle.std.specs.{Prelude.{ℕ, ◌+◌, ◌-◌, ◌^◌, ◌==◌, ◌||◌, Bool, List, min, if◌then◌else◌}, List.{list_any}}

-- the number of the next call after so many: it stops at the last value
abbrev pub next_call : ℕ → ℕ
next_call calls = min (calls + 1) (2 ^ 64 - 1)

-- whether the call with this number fails whatever it asks: the number is the last value, or is set to fail
abbrev pub is_due : ℕ → List ℕ → Bool
is_due call failing = call == 2 ^ 64 - 1 || list_any (λ n. n == call) failing

-- a count after it rose in the call with this number: in a call with the last number it goes to its own last value
abbrev pub risen : ℕ → ℕ → ℕ
risen call count = if call == 2 ^ 64 - 1 then 2 ^ 64 - 1 else min (count + 1) (2 ^ 64 - 1)

-- a count after the call with this number, in which it rose or not
abbrev pub count_after : Bool → ℕ → ℕ → ℕ
count_after rose call count = if rose then risen call count else count
