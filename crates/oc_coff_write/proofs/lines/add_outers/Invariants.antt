use Rattle.std.proofs.Common.{◌≡◌, ◌++◌, map, Some}
use Rattle.oc_coff_file.specs.Lines.{OuterLine, lines_where, is_free}
use Rattle.oc_coff_write.specs.Lines.{lines_in}
use Rattle.oc_coff_write.proofs.LineLemmas.{lines_left}
use Rattle.oc_coff_write.proofs.lines.add_outers.Given as goal

-- the lines so far, and those that are left
abbrev pub invariant-loop-k : goal.invariant-loop-k
invariant-loop-k l = lines_in l.neutral l.lines.items ++ lines_left OuterLine (is_free l.neutral) l.neutral.symbols l.k ≡ lines_in l.neutral l.fn.lines.items ++ map Some (lines_where OuterLine (is_free l.neutral) l.neutral)
