use Rattle.std.proofs.Common.{◌≤◌}
use Rattle.oc_coff_write.proofs.name_cursor.tabled_count.Given as goal

-- at most one for each section so far
abbrev pub invariant-loop-section : goal.invariant-loop-section
invariant-loop-section l = l.count ≤ l.section-index
