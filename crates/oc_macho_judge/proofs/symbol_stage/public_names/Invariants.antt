-- The names so far.
use Rattle.std.proofs.Common.{◌≡◌, map, take}
use Rattle.oc_strings.specs.Repeats.{names_of}
use Rattle.oc_macho.specs.SymbolFaults.{public_name}
use Rattle.oc_macho_judge.proofs.symbol_stage.public_names.Given as goal

abbrev pub invariant-loop-j : goal.invariant-loop-j
invariant-loop-j l = names_of l.names.items ≡ map (public_name l.frame) (take l.j l.frame.symbols)
