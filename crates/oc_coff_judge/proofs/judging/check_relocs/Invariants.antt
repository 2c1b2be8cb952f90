-- The relocations of the sections so far have no fault.
use Rattle.oc_coff.specs.Files.{tables_in}
use Rattle.std.proofs.Common.{◌≡◌, None}
use Rattle.oc_linking.specs.Numbers.{first_upto}
use Rattle.oc_coff_judge.specs.Relocs.{relocs_fault}
use Rattle.oc_coff_judge.proofs.judging.check_relocs.Given as goal

abbrev pub invariant-loop-i : goal.invariant-loop-i
invariant-loop-i l = first_upto (relocs_fault l.aims.word (tables_in l.coff) l.keep) l.i ≡ None
