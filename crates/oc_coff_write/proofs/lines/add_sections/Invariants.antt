use Rattle.std.proofs.Common.{◌≡◌, ◌++◌, map, Some}
use Rattle.std.specs.{Prelude.{flat_map}, List.{enumerate_from}}
use Rattle.oc_coff_file.specs.Lines.{section_lines}
use Rattle.oc_coff_write.specs.Lines.{lines_in}
use Rattle.oc_coff_write.proofs.LineLemmas.{sections_left}
use Rattle.oc_coff_write.proofs.lines.add_sections.Given as goal

-- the lines so far, and those that are left
abbrev pub invariant-loop-k : goal.invariant-loop-k
invariant-loop-k l = lines_in l.neutral l.lines.items ++ sections_left l.neutral l.k ≡ lines_in l.neutral l.fn.lines.items ++ map Some (flat_map (section_lines l.neutral) (enumerate_from 0 l.neutral.sections))
