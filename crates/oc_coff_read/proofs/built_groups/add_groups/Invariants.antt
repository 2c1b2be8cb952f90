-- The groups of the sections so far are begun.
use Rattle.oc_coff.specs.Files.{tables_in}
use Rattle.std.proofs.Common.{◌≡◌}
use Rattle.oc_coff_read.specs.Built.{AreBegunGroups, grouped, keys_upto}
use Rattle.oc_coff_read.proofs.built_groups.add_groups.Given as goal

abbrev pub invariant-loop-i : goal.invariant-loop-i
invariant-loop-i l = record {
  draft : l.builder ≡ grouped l.word (tables_in l.coff) l.i;
  begun : AreBegunGroups (tables_in l.coff) (keys_upto (tables_in l.coff) l.i) l.begun;
}
