use Rattle.std.proofs.Common.{◌≡◌, ◌++◌, drop}
use Rattle.oc_linking.specs.{Plain.{patches_at}, Images.{overlay}}
use Rattle.oc_linking.proofs.plain.image.Given as goal

-- what is written and what is left are the image
abbrev pub invariant-loop-i : goal.invariant-loop-i
invariant-loop-i l = l.out.items ++ overlay (patches_at l.fields l.section) l.i (drop l.i l.contents) ≡ overlay (patches_at l.fields l.section) 0 l.contents
