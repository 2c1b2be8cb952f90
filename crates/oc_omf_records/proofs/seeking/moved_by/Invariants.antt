use Rattle.std.proofs.Common.{◌≡◌, ◌++◌, take, drop}
use Rattle.oc_omf_records.specs.Blocks.{moved}
use Rattle.oc_omf_records.proofs.seeking.moved_by.Given as goal

-- those so far are moved
abbrev pub invariant-loop-place : goal.invariant-loop-place
invariant-loop-place l = l.place-items ≡ moved l.by (take l.place-index l.initial.place-items) ++ drop l.place-index l.initial.place-items
