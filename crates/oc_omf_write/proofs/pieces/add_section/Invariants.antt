use Rattle.std.proofs.Common.{◌≡◌, ◌-◌, ◌≤◌, ◌++◌}
use Rattle.oc_omf_write.specs.Pieces.{section_entries}
use Rattle.oc_omf_write.proofs.PieceLemmas.{pieces_left}
use Rattle.oc_omf_write.proofs.pieces.add_section.Given as goal

-- the entries of the pieces so far, and of those that are left
abbrev pub invariant-pieces : goal.invariant-pieces
invariant-pieces l =
    (l.from ≤ l.size)
    × (l.entries.items ++ pieces_left l.section l.fixups l.size l.from ≡ l.fn.entries.items ++ section_entries l.section l.fixups l.size)

abbrev pub decreases-pieces : goal.decreases-pieces
decreases-pieces l = l.size - l.from
