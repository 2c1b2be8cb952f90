-- The carried sections so far are added.
use Rattle.oc_coff.specs.Files.{tables_in}
use Rattle.std.proofs.Common.{◌≡◌}
use Rattle.oc_coff_read.specs.Built.{sectioned}
use Rattle.oc_coff_read.proofs.built_sections.add_sections.Given as goal

abbrev pub invariant-loop-i : goal.invariant-loop-i
invariant-loop-i l = l.builder ≡ sectioned l.word (tables_in l.coff) l.i
