use Rattle.std.proofs.Common.{◌≡◌, drop}
use Rattle.std.specs.List.{list_any}
use Rattle.oc_hints.specs.Files.{meets_symbol}
use Rattle.oc_hints.proofs.edits.meets_any.Given as goal

-- one of the symbols that are left is met, or none is
abbrev pub invariant-loop-symbol : goal.invariant-loop-symbol
invariant-loop-symbol l = list_any (meets_symbol l.edit) (drop l.symbol-index l.symbols) ≡ list_any (meets_symbol l.edit) l.symbols
