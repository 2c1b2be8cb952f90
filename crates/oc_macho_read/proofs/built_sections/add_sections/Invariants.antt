-- The sections so far are added.
use Rattle.std.proofs.Common.{◌≡◌}
use Rattle.oc_macho_read.specs.Built.{sectioned}
use Rattle.oc_macho_read.proofs.built_sections.add_sections.Given as goal

abbrev pub invariant-loop-i : goal.invariant-loop-i
invariant-loop-i l = l.builder ≡ sectioned l.frame l.i
