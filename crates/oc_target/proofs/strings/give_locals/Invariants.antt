use Rattle.std.proofs.Common.{◌≡◌, ◌&&◌, ◌++◌}
use Rattle.std.specs.Prelude.{drop}
use Rattle.oc_linking.specs.Parts.{is_local}
use Rattle.oc_strings.specs.Tables.{texts}
use Rattle.oc_neutral.specs.{declared.symbol.Symbol.{Symbol}, WrittenSymbols.{is_written}}
use Rattle.oc_target.proofs.Giving.{long_names}
use Rattle.oc_target.proofs.strings.give_locals.Given as goal

-- the names so far, and those that are left
abbrev pub invariant-loop-k : goal.invariant-loop-k
invariant-loop-k l = texts l.given.items ++ long_names (λ (s : Symbol). is_local s.binding && is_written l.target s) (drop l.k l.neutral.symbols)
    ≡ texts l.fn.given.items ++ long_names (λ (s : Symbol). is_local s.binding && is_written l.target s) l.neutral.symbols
