use Rattle.std.proofs.Common.{ℕ, ◌-◌, length}
use Rattle.oc_omf_read.specs.Fields.{AreLow, HasFields, held}
use Rattle.oc_omf_read.proofs.FieldLemmas.{IsWalking}
use Rattle.oc_omf_read.proofs.fields.take_subrecords.Given as goal

-- the threads and fixups so far, and those that are left, are all
abbrev pub invariant-loop-at : goal.invariant-loop-at
invariant-loop-at l = record {
  low : AreLow (held l.behind);
  walking : (i : ℕ) → HasFields l.context i l.fn.fields.items l.fn.behind → IsWalking l.context i l.entry l.wide l.at l.fields.items l.fn.behind l.behind;
}

abbrev pub decreases-loop-at : goal.decreases-loop-at
decreases-loop-at l = length l.entry.contents - l.at
