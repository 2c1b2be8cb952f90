use Rattle.std.proofs.Common.{◌≡◌}
use Rattle.oc_omf_records.specs.Blocks.{in_each}
use Rattle.oc_omf_records.proofs.seeking.in_each.Given as goal

-- the places in the copies so far
abbrev pub invariant-loop-copy : goal.invariant-loop-copy
invariant-loop-copy l = l.all.items ≡ in_each l.copy l.size l.places
