use Rattle.std.proofs.Common.{◌≡◌, drop}
use Rattle.oc_linking.specs.Plain.{patch_at}
use Rattle.oc_linking.proofs.plain.patch_of.Given as goal

-- what is left of the list has the answer
abbrev pub invariant-loop-field : goal.invariant-loop-field
invariant-loop-field l = patch_at (drop l.field-index l.fields) l.section l.offset ≡ patch_at l.fields l.section l.offset
