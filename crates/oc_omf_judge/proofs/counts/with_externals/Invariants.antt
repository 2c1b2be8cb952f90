-- The externals so far are counted.
use Rattle.std.proofs.Common.{◌≡◌, ℕ, ◌+◌, ◌-◌, Bool, length}
use Rattle.std.specs.Prelude.{min}
use Rattle.oc_omf.specs.Entries.{all_read}
use Rattle.oc_omf.proofs.EachLemmas.{each_from}
use Rattle.oc_omf_judge.specs.Counts.{external_by}
use Rattle.oc_omf_judge.proofs.counts.with_externals.Given as goal

abbrev pub invariant-loop-at : goal.invariant-loop-at
invariant-loop-at l =
    (local : Bool) (n : ℕ) → l.fn.count ≡ min n 65536
    → (k : ℕ) × (l.count ≡ min (n + k) 65536) × (length (all_read (each_from (external_by l.communals local) l.contents 0)) ≡ k + length (all_read (each_from (external_by l.communals local) l.contents l.at)))

abbrev pub decreases-loop-at : goal.decreases-loop-at
decreases-loop-at l = length l.contents - l.at
