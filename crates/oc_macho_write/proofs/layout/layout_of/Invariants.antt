use Rattle.std.proofs.Common.{take}
use Rattle.oc_macho_file.specs.Layout.{parts_of}
use Rattle.oc_macho_write.specs.LaidParts.{AreLaid}
use Rattle.oc_macho_write.proofs.layout.layout_of.Given as goal

-- the parts so far are laid
abbrev pub invariant-loop-part : goal.invariant-loop-part
invariant-loop-part l = AreLaid l.word l.neutral l.layout (take l.part-index (parts_of l.neutral))
