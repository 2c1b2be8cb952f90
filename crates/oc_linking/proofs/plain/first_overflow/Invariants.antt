use Rattle.std.proofs.Common.{◌≡◌, drop, map}
use Rattle.oc_linking.specs.{Plain.{patches_at}, Images.{first_field, overflows}}
use Rattle.oc_linking.proofs.plain.first_overflow.Given as goal

-- the sections that are left have the answer
abbrev pub invariant-loop-s : goal.invariant-loop-s
invariant-loop-s l = first_field (overflows l.word) (patches_at l.fields) l.s (map (λ x. x.items) (drop l.s l.sections))
    ≡ first_field (overflows l.word) (patches_at l.fields) 0 (map (λ x. x.items) l.sections)
