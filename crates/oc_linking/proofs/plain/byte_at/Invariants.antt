use Rattle.std.proofs.Common.{◌≡◌, None}
use Rattle.oc_linking.specs.{Plain.{patches_at}, Images.{byte_upto}}
use Rattle.oc_linking.proofs.plain.byte_at.Given as goal

-- no nearer field stores the byte
abbrev pub invariant-loop-back : goal.invariant-loop-back
invariant-loop-back l = byte_upto (patches_at l.fields l.section) l.i l.back ≡ None
