-- No group is begun at first.
use Rattle.oc_coff.specs.Files.{tables_in}
use Rattle.std.proofs.Common.{◌+◌, sym, subst, arith}
use Rattle.oc_coff_read.specs.Built.{AreBegunGroups, keys_upto}
use Rattle.oc_coff_read.proofs.BegunLemmas.{begun_start}
use Rattle.oc_coff_read.proofs.built_groups.add_groups.Goals as goal

pub loop-i-init : goal.loop-i-init
loop-i-init c = record {
  draft = c.requires.empty;
  begun = subst (AreBegunGroups (tables_in c.args.coff.now) (keys_upto (tables_in c.args.coff.now) 0)) (sym c.in_ok-begun.ensures)
      (begun_start (tables_in c.args.coff.now) (c.section_count-count.result + 1) (omega (arith, c.section_count-count.ensures)));
}
