use Rattle.std.proofs.Common.{◌≡◌, ◌-◌}
use Rattle.oc_linking.specs.{Plain.{patches_at}, Numbers.{first_from}, Images.{passes_at, overflows, first_at}}
use Rattle.oc_linking.proofs.plain.first_offset.Given as goal

-- the offsets that are left have the answer
abbrev pub invariant-loop-offset : goal.invariant-loop-offset
invariant-loop-offset l = first_from (passes_at (overflows l.word) (patches_at l.fields l.section)) l.offset (l.size - l.offset)
    ≡ first_at (overflows l.word) (patches_at l.fields l.section) l.size
