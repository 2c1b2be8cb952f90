use Rattle.std.proofs.Common.{◌≡◌, drop}
use Rattle.oc_base.specs.Formats.{word_for}
use Rattle.oc_linking.specs.Images.{first_field, overflows}
use Rattle.oc_link.specs.Values.{contents, patches}
use Rattle.oc_link.proofs.overflow.first_overflow.Given as goal

-- the sections that are left have the answer
abbrev pub invariant-loop-section : goal.invariant-loop-section
invariant-loop-section l =
    first_field (overflows (word_for l.object.format)) (patches l.object l.placed) l.section (drop l.section (contents l.object l.placed))
    ≡ first_field (overflows (word_for l.object.format)) (patches l.object l.placed) 0 (contents l.object l.placed)
