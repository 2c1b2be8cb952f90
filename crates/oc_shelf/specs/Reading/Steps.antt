-- Entries of any sizes that lie one after another (our profile).
use Rattle.std.specs.Prelude.{ℕ, zero, suc, ◌+◌}

-- where entry n begins, from a place on, where `size` gives the length of the entry at each place
abbrev pub step_place : (ℕ → ℕ) → ℕ → ℕ → ℕ
step_place size at zero = at
step_place size at (suc n) = step_place size at n + size (step_place size at n)
