use Rattle.std.proofs.Common.{◌≡◌, take, string_bytes}
use Rattle.std.specs.List.{flat_map}
use Rattle.oc_hint_text.specs.Lines.{hint_line}
use Rattle.oc_hint_text.proofs.lines.hint_lines.Given as goal

-- the lines of the hints so far
abbrev pub invariant-loop-hint : goal.invariant-loop-hint
invariant-loop-hint l = string_bytes l.out ≡ flat_map hint_line (take l.hint-index l.hints)
