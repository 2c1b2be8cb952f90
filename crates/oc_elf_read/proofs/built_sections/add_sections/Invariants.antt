-- The carried sections so far are added.
use Rattle.std.proofs.Common.{◌≡◌}
use Rattle.oc_elf_read.specs.Built.{sectioned}
use Rattle.oc_elf_read.proofs.built_sections.add_sections.Given as goal

abbrev pub invariant-loop-k : goal.invariant-loop-k
invariant-loop-k l = l.builder ≡ sectioned l.frame l.k
