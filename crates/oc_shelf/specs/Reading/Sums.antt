-- Running sums with a limit (our profile).
use Rattle.std.specs.Prelude.{ℕ, zero, suc, ◌+◌, Bool, nat_lt}

-- the sum of the values of the first n structures
abbrev pub sum_upto : (ℕ → ℕ) → ℕ → ℕ
sum_upto worth zero = 0
sum_upto worth (suc n) = sum_upto worth n + worth n

-- with structure i the sum passes the most that is allowed
abbrev pub passes : (ℕ → ℕ) → ℕ → ℕ → Bool
passes worth most i = nat_lt most (sum_upto worth i + worth i)
