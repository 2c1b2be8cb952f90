-- The entries so far that say something.
use Rattle.std.proofs.Common.{◌≡◌}
use Rattle.oc_shelf.specs.Reading.Collected.{collected}
use Rattle.oc_elf_read.specs.Given.{placed}
use Rattle.oc_elf_read.proofs.built_relocs.gathered.Given as goal

abbrev pub invariant-loop-k : goal.invariant-loop-k
invariant-loop-k l = l.entries.items ≡ collected (placed l.frame l.i) l.k
