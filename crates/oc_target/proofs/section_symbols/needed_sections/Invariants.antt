use Rattle.std.proofs.Common.{◌≡◌, ℕ, ◌<◌, ◌||◌, false, length}
use Rattle.std.specs.Prelude.{slice_index_or}
use Rattle.oc_target.proofs.Marking.{names_from}
use Rattle.oc_target.proofs.section_symbols.needed_sections.Given as goal

-- what is marked, and what the relocations of the sections that are left name
abbrev pub invariant-loop-section : goal.invariant-loop-section
invariant-loop-section l =
    (length l.needed.items ≡ length l.neutral.sections)
    × ((k : ℕ) → k < length l.neutral.sections → (slice_index_or l.needed.items k false || names_from l.neutral k l.section) ≡ names_from l.neutral k 0)
