-- Our profile: what the counts of failed calls show.
use Rattle.std.specs.Prelude.{◌≡◌, ℕ, ◌+◌, ◌-◌, ◌^◌, ◌≤◌, min}

-- the count rose, or is at its last value 2^64 - 1
abbrev pub Rose : ℕ → ℕ → Type 0
Rose before now = min (before + 1) (2 ^ 64 - 1) ≤ now

-- the count did not rise
abbrev pub IsSteady : ℕ → ℕ → Type 0
IsSteady before now = Rose before now → ⊥

-- a call's own count does not fall, and it leaves the other count
pub record Counts (before now other_before other_now : ℕ) : Type 0 where
  pub later : before ≤ now
  pub other : other_now ≡ other_before
