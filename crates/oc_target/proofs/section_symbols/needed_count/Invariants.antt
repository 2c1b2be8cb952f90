use Rattle.std.proofs.Common.{◌≡◌, ◌≤◌}
use Rattle.std.specs.List.{count_by, range_with_len}
use Rattle.oc_neutral.specs.Mach.SectionSymbols.{needs_section_symbol}
use Rattle.oc_target.proofs.section_symbols.needed_count.Given as goal

-- those before are counted
abbrev pub invariant-loop-k : goal.invariant-loop-k
invariant-loop-k l = (l.count ≡ count_by (needs_section_symbol l.neutral) (range_with_len 0 l.k)) × (l.count ≤ l.k)
