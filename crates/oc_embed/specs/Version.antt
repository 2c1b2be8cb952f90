-- Versions of the calls (our profile).
use Rattle.std.specs.Prelude.{ℕ, ◌+◌, ◌*◌}

-- a version as one number
abbrev pub number : ℕ → ℕ → ℕ → ℕ
number major minor patch = major * 10000 + minor * 100 + patch
