-- No entry so far has a fault, and what is kept is what they have.
use Rattle.std.proofs.Common.{◌≡◌, None}
use Rattle.oc_linking.specs.Numbers.{first_upto}
use Rattle.oc_omf.specs.Fixups.{subrecords_upto}
use Rattle.oc_omf_judge.specs.{Defined.{before_in}, Reached.{IsReached}, Whole.{entries}}
use Rattle.oc_omf_judge.proofs.PartLemmas.{relocations_at}
use Rattle.oc_omf_judge.proofs.relocs.check_relocations.Given as goal

abbrev pub invariant-loop-i : goal.invariant-loop-i
invariant-loop-i l = record {
  clean : first_upto (relocations_at l.whole) l.i ≡ None;
  reached : IsReached l.whole (before_in l.whole.front.omf l.i) (subrecords_upto (entries l.whole) l.i) l.reached;
}
