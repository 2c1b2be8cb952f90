-- The names so far.
use Rattle.std.proofs.Common.{◌≡◌, map}
use Rattle.std.specs.List.{range_with_len}
use Rattle.oc_strings.specs.Repeats.{names_of}
use Rattle.oc_elf.specs.SymbolRules.{public_name}
use Rattle.oc_elf_judge.proofs.symbol_stage.public_names.Given as goal

abbrev pub invariant-loop-k : goal.invariant-loop-k
invariant-loop-k l = names_of l.names.items ≡ map (public_name l.frame) (range_with_len 0 l.k)
