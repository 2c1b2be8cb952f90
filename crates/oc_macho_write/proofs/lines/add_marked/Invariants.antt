use Rattle.std.proofs.Common.{◌≡◌, ◌-◌, ◌++◌, length, map, Some}
use Rattle.std.specs.List.{filter, range_with_len}
use Rattle.oc_neutral.specs.Mach.SectionSymbols.{needed_sections, needs_section_symbol}
use Rattle.oc_macho_file.specs.Lines.{OwnLine}
use Rattle.oc_macho_write.specs.Lines.{lines_in}
use Rattle.oc_macho_write.proofs.lines.add_marked.Given as goal

-- the lines so far, and those that are left
abbrev pub invariant-loop-k : goal.invariant-loop-k
invariant-loop-k l =
    lines_in l.neutral l.lines.items ++ map Some (map OwnLine (filter (needs_section_symbol l.neutral) (range_with_len l.k (length l.neutral.sections - l.k))))
    ≡ lines_in l.neutral l.fn.lines.items ++ map Some (map OwnLine (needed_sections l.neutral))
