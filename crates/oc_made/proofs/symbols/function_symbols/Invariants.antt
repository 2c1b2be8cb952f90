-- The symbols so far.
use Rattle.std.proofs.Common.{◌≡◌, map}
use Rattle.std.specs.List.{range_with_len}
use Rattle.oc_made.specs.Functions.{function_symbol}
use Rattle.oc_made.proofs.symbols.function_symbols.Given as goal

abbrev pub invariant-loop-i : goal.invariant-loop-i
invariant-loop-i l = l.symbols.items ≡ map function_symbol (range_with_len 0 l.i)
