use Rattle.std.proofs.Common.{◌≡◌, ◌++◌, take}
use Rattle.std.specs.List.{flat_map}
use Rattle.oc_hints.specs.Hints.{symbol_hint}
use Rattle.oc_hints.proofs.noting.note_symbols_of.Given as goal

-- the hints of the symbols so far stand after the others
abbrev pub invariant-loop-symbol : goal.invariant-loop-symbol
invariant-loop-symbol l = l.found.items ≡ l.initial.found.items ++ flat_map (symbol_hint l.key) (take l.symbol-index l.symbols)
