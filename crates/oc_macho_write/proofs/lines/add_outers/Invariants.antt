use Rattle.std.proofs.Common.{◌≡◌, ℕ, ◌++◌, map, drop, Some}
use Rattle.std.specs.List.{enumerate_from, filter}
use Rattle.oc_neutral.specs.declared.symbol.Symbol.{Symbol}
use Rattle.oc_macho_file.specs.Lines.{OuterLine, lines_where}
use Rattle.oc_macho_write.specs.Lines.{is_outer, lines_in}
use Rattle.oc_macho_write.proofs.lines.add_outers.Given as goal

-- the lines so far, and those that are left
abbrev pub invariant-loop-k : goal.invariant-loop-k
invariant-loop-k l =
    lines_in l.neutral l.lines.items ++ map Some (map (λ (x : ℕ × Symbol). OuterLine x.0 x.1) (filter (λ (x : ℕ × Symbol). is_outer l.outer x.1.binding) (enumerate_from l.k (drop l.k l.neutral.symbols))))
    ≡ lines_in l.neutral l.fn.lines.items ++ map Some (lines_where OuterLine (λ (x : Symbol). is_outer l.outer x.binding) l.neutral)
