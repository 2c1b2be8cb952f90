-- The symbols of functions, and those outside so far.
use Rattle.std.proofs.Common.{◌≡◌, ◌++◌, map}
use Rattle.std.specs.List.{range_with_len}
use Rattle.oc_made.specs.Functions.{function_symbol, outside_symbol}
use Rattle.oc_made.proofs.symbols.symbols_of.Given as goal

abbrev pub invariant-loop-k : goal.invariant-loop-k
invariant-loop-k l = l.symbols.items ≡ map function_symbol (range_with_len 0 l.count) ++ map (outside_symbol l.count) (range_with_len 0 l.k)
