-- The carried symbols so far are added.
use Rattle.std.proofs.Common.{◌≡◌}
use Rattle.oc_elf_read.specs.Built.{symboled}
use Rattle.oc_elf_read.proofs.built_symbols.add_symbols.Given as goal

abbrev pub invariant-loop-k : goal.invariant-loop-k
invariant-loop-k l = l.builder ≡ symboled l.frame l.k
