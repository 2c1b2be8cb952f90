-- Nothing stood before.
use Rattle.std.proofs.Common.{refl, rules}
use Rattle.oc_omf.specs.{Fixups.{fixed_in}, Tables.{tables_of}}
use Rattle.oc_omf_judge.proofs.reached.Reached.new.Goals as goal

pub returns : goal.returns
unfolding tables_of fixed_in
returns c = λ w. record {
  counts_are = record { segments_are = refl; groups_are = refl; externals_are = refl };
  last_is = refl;
  threads_are = c.new.ensures;
  starts_are = record { are = c.new-2.ensures; low = λ i x here. search rules };
}
