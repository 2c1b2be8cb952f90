-- No group is begun at first.
use Rattle.std.proofs.Common.{sym, subst}
use Rattle.oc_elf_read.specs.Built.{AreBegunGroups, keys_upto}
use Rattle.oc_elf_read.proofs.BegunLemmas.{begun_start}
use Rattle.oc_elf_read.proofs.built_groups.add_groups.Goals as goal

pub loop-k-init : goal.loop-k-init
loop-k-init c = record {
  draft = c.requires.empty;
  begun = subst (AreBegunGroups c.args.frame.now (keys_upto c.args.frame.now 0)) (sym c.in_ok-begun.ensures) (begun_start c.args.frame.now c.count-count.result c.count-count.ensures.count);
}
