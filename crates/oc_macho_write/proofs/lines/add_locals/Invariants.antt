use Rattle.std.proofs.Common.{◌≡◌, ℕ, ◌&&◌, ◌++◌, map, drop, Some}
use Rattle.std.specs.List.{enumerate_from, filter}
use Rattle.oc_linking.specs.Parts.{is_local}
use Rattle.oc_neutral.specs.{declared.symbol.Symbol.{Symbol}, WrittenSymbols.{is_written}}
use Rattle.oc_macho_file.specs.Lines.{LocalLine, local_lines}
use Rattle.oc_macho_write.specs.Lines.{lines_in}
use Rattle.oc_macho_write.proofs.lines.add_locals.Given as goal

-- the lines so far, and those that are left
abbrev pub invariant-loop-k : goal.invariant-loop-k
invariant-loop-k l =
    lines_in l.neutral l.lines.items ++ map Some (map (λ (x : ℕ × Symbol). LocalLine x.0 x.1) (filter (λ (x : ℕ × Symbol). is_local x.1.binding && is_written l.neutral.format x.1) (enumerate_from l.k (drop l.k l.neutral.symbols))))
    ≡ lines_in l.neutral l.fn.lines.items ++ map Some (local_lines l.neutral)
