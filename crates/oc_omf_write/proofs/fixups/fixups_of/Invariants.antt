use Rattle.oc_omf_write.proofs.FixupLemmas.{IsMaking}
use Rattle.oc_omf_write.proofs.fixups.fixups_of.Given as goal

-- the fixups so far, and those that are left
abbrev pub invariant-loop-field : goal.invariant-loop-field
invariant-loop-field l = IsMaking l.fn.neutral l.fn.numbers l.fn.section l.fixups.items l.field-iterator
