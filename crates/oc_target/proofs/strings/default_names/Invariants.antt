use Rattle.std.proofs.Common.{◌≡◌, ◌++◌}
use Rattle.std.specs.{Prelude.{drop}, List.{flat_map}}
use Rattle.oc_neutral.specs.{declared.symbol.Symbol.{Symbol}, Coff.Strings.{defaults_of}}
use Rattle.oc_target.proofs.strings.default_names.Given as goal

-- the names so far, and those that are left
abbrev pub invariant-loop-k : goal.invariant-loop-k
invariant-loop-k l = l.names.items ++ flat_map (λ (s : Symbol). defaults_of s.name s.binding) (drop l.k l.neutral.symbols)
    ≡ flat_map (λ (s : Symbol). defaults_of s.name s.binding) l.neutral.symbols
