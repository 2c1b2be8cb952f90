use Rattle.std.proofs.Common.{◌≡◌, ◌++◌, map, Some}
use Rattle.oc_shows.specs.SymbolLines.{needs_default}
use Rattle.oc_coff_file.specs.Lines.{DefaultLine, lines_where}
use Rattle.oc_coff_write.specs.Lines.{lines_in}
use Rattle.oc_coff_write.proofs.LineLemmas.{lines_left}
use Rattle.oc_coff_write.proofs.lines.add_defaults.Given as goal

-- the lines so far, and those that are left
abbrev pub invariant-loop-k : goal.invariant-loop-k
invariant-loop-k l = lines_in l.neutral l.lines.items ++ lines_left DefaultLine needs_default l.neutral.symbols l.k ≡ lines_in l.neutral l.fn.lines.items ++ map Some (lines_where DefaultLine needs_default l.neutral)
