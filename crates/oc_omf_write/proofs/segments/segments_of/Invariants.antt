use Rattle.std.proofs.Common.{◌≡◌, map, take}
use Rattle.oc_omf_write.specs.Names.{segment_in}
use Rattle.oc_omf_write.proofs.segments.segments_of.Given as goal

-- the segments so far
abbrev pub invariant-loop-section : goal.invariant-loop-section
invariant-loop-section l = l.segments.items ≡ map (segment_in l.sections) (take l.section-index l.sections)
