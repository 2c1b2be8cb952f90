use Rattle.std.proofs.Common.{◌≡◌, ◌++◌, drop}
use Rattle.oc_neutral.specs.Without as without
use Rattle.oc_neutral.proofs.without.symbols_stay.Given as goal

-- the flags so far, and those of the symbols that are left, are all
abbrev pub invariant-loop-symbol : goal.invariant-loop-symbol
invariant-loop-symbol l = l.flags.items ++ without.symbols_stay l.stay (drop l.symbol-index l.symbols) ≡ without.symbols_stay l.stay l.symbols
