-- The two names that are no section's.
use Rattle.std.proofs.Common.{[], refl}
use Rattle.oc_omf_file.specs.Names.{with_name}
use Rattle.oc_omf_write.proofs.NameLemmas.{upto_begun}
use Rattle.oc_omf_write.proofs.names.Names.add_first.Goals as goal

pub returns : goal.returns
returns c = λ sections none. upto_begun sections _ (c.in_ok-add-2.ensures sections (with_name [] []) tt refl (c.in_ok-add.ensures sections [] tt refl none))
