-- The carried symbols so far are added.
use Rattle.oc_coff.specs.Files.{tables_in}
use Rattle.std.proofs.Common.{◌≡◌}
use Rattle.oc_coff_read.specs.Built.{symboled}
use Rattle.oc_coff_read.proofs.built_symbols.add_symbols.Given as goal

abbrev pub invariant-loop-i : goal.invariant-loop-i
invariant-loop-i l = l.builder ≡ symboled l.word (tables_in l.coff) l.i
