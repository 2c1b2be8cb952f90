use Rattle.std.proofs.Common.{◌≡◌, ◌++◌, drop}
use Rattle.oc_drop.specs.Dropping as dropping
use Rattle.oc_drop.proofs.dropping.sections_stay.Given as goal

-- the flags so far, and those of the sections that are left, are all
abbrev pub invariant-loop-section : goal.invariant-loop-section
invariant-loop-section l = l.stay.items ++ dropping.sections_stay l.keep (drop l.section-index l.sections) ≡ dropping.sections_stay l.keep l.sections
