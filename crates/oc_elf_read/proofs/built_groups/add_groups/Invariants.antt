-- The groups of the sections so far are begun.
use Rattle.std.proofs.Common.{◌≡◌}
use Rattle.oc_elf_read.specs.Built.{AreBegunGroups, grouped, keys_upto}
use Rattle.oc_elf_read.proofs.built_groups.add_groups.Given as goal

abbrev pub invariant-loop-k : goal.invariant-loop-k
invariant-loop-k l = record {
  draft : l.builder ≡ grouped l.frame l.k;
  begun : AreBegunGroups l.frame (keys_upto l.frame l.k) l.begun;
}
