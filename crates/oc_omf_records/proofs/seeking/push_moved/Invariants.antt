use Rattle.std.proofs.Common.{◌≡◌, ◌++◌, take}
use Rattle.oc_omf_records.specs.Blocks.{moved}
use Rattle.oc_omf_records.proofs.seeking.push_moved.Given as goal

-- what was there, and those so far
abbrev pub invariant-loop-place : goal.invariant-loop-place
invariant-loop-place l = l.all.items ≡ l.initial.all.items ++ moved l.by (take l.place-index l.places)
