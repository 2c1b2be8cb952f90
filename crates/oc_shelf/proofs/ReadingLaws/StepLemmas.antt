-- Entries of any sizes that stand one behind another.
use Rattle.std.proofs.Common.{◌≡◌, ℕ, suc, ◌+◌, ap, arith}
use Rattle.oc_shelf.specs.Reading.Steps.{step_place}

-- one entry more
pub step_more : (size : ℕ → ℕ) (at n : ℕ) → step_place size at (n + 1) ≡ step_place size at n + size (step_place size at n)
step_more size at n = let e : n + 1 ≡ suc n = omega arith in ap (step_place size at) e
