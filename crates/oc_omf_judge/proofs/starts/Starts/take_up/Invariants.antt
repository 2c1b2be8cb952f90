-- The places so far are taken up.
use Rattle.std.proofs.Common.{◌≡◌, ℕ}
use Rattle.std.specs.Prelude.{◌||◌, take}
use Rattle.oc_omf_judge.specs.Starts.{is_among, is_start}
use Rattle.oc_omf_judge.proofs.starts.Starts.take_up.Given as goal

abbrev pub invariant-loop-place : goal.invariant-loop-place
invariant-loop-place l = (k : ℕ) → is_start l.self k ≡ (is_start l.fn.self k || is_among l.base (take l.place-index l.places) k)
