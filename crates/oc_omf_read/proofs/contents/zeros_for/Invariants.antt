use Rattle.std.proofs.Common.{◌≡◌, ℕ, ◌<◌, length, replicate}
use Rattle.oc_omf_read.specs.Contents.{items_at, size_in}
use Rattle.oc_omf_read.proofs.contents.zeros_for.Given as goal

-- zeros for the segments before
abbrev pub invariant-loop-k : goal.invariant-loop-k
invariant-loop-k l = record {
  long : length l.vectors.items ≡ l.k;
  each : (j : ℕ) → j < l.k → items_at l.vectors.items j ≡ replicate (size_in l.known j) 0;
}
