use Rattle.oc_omf_records.proofs.CopyLaws.{copies_are_copies_lem}
use Rattle.oc_omf_records.proofs.laws.copies_are_copies.Goals as goal

pub returns : goal.returns
returns c = copies_are_copies_lem
