use Rattle.std.proofs.Common.{◌*◌, ◌≤◌, take}
use Rattle.oc_omf_write.specs.Plans.{AreLaid}
use Rattle.oc_omf_write.proofs.layout.layout_of.Given as goal

-- the entries so far are laid
abbrev pub invariant-loop-entry : goal.invariant-loop-entry
invariant-loop-entry l = AreLaid l.tables l.layout (take l.entry-index l.entries) × (l.layout.end ≤ 2052 * l.entry-index)
