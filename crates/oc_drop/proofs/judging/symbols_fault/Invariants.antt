use Rattle.std.proofs.Common.{◌≡◌, drop}
use Rattle.oc_drop.specs.{Steps.{first_in}, Dropping.{dropped_symbol}}
use Rattle.oc_drop.proofs.judging.symbols_fault.Given as goal

-- the symbols that are left have the answer
abbrev pub invariant-loop-symbol : goal.invariant-loop-symbol
invariant-loop-symbol l = first_in (dropped_symbol l.stay) (drop l.symbol-index l.symbols) ≡ first_in (dropped_symbol l.stay) l.symbols
