-- No field begins near one of the places so far.
use Rattle.std.proofs.Common.{◌≡◌, ℕ, ◌+◌, true}
use Rattle.std.specs.{Prelude.{nat_eq, take}, List.{list_any}}
use Rattle.oc_omf_judge.specs.Starts.{IsNear}
use Rattle.oc_omf_judge.proofs.starts.Starts.are_met.Given as goal

abbrev pub invariant-loop-place : goal.invariant-loop-place
invariant-loop-place l = (p : ℕ) → list_any (nat_eq p) (take l.place-index l.places) ≡ true → IsNear l.self (l.base + p) → ⊥
