use Rattle.oc_macho_write.proofs.RelocationLemmas.{IsMaking}
use Rattle.oc_macho_write.proofs.relocations.entries_of.Given as goal

-- the entries so far, and those that are left
abbrev pub invariant-loop-field : goal.invariant-loop-field
invariant-loop-field l = IsMaking l.fn.context l.fn.neutral l.fn.section l.entries.items l.field-iterator
