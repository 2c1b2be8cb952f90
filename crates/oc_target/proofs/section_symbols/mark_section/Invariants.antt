use Rattle.std.proofs.Common.{◌≡◌, ℕ, ◌<◌, ◌||◌, false, length}
use Rattle.std.specs.Prelude.{slice_index_or}
use Rattle.oc_chains.specs.Lists.{list_of}
use Rattle.oc_neutral.specs.Mach.SectionSymbols.{any_names}
use Rattle.oc_target.proofs.section_symbols.mark_section.Given as goal

-- what is marked, and what the relocations that are left name
abbrev pub invariant-loop-field : goal.invariant-loop-field
invariant-loop-field l =
    (goal.iterator-loop-field).can_next l.field-iterator
    × (goal.iterator-loop-field).is_finite l.field-iterator
    × (length l.needed.items ≡ length l.fn.needed.items)
    × ((k : ℕ) → k < length l.fn.needed.items → (slice_index_or l.needed.items k false || any_names k l.fn.section l.field-iterator)
    ≡ (slice_index_or l.fn.needed.items k false || any_names k l.fn.section (list_of l.fn.neutral.relocs l.fn.section)))
