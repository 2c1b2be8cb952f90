use Rattle.std.proofs.Common.{◌≡◌, take, string_bytes}
use Rattle.std.specs.List.{flat_map}
use Rattle.oc_dump.specs.Lines.{line_of}
use Rattle.oc_dump.proofs.lines.symbol_lines.Given as goal

-- the lines of the symbols so far
abbrev pub invariant-loop-index : goal.invariant-loop-index
invariant-loop-index l = string_bytes l.out ≡ flat_map (line_of l.neutral) (take l.index l.neutral.symbols)
