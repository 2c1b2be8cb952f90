use Rattle.oc_omf_records.proofs.CopyLaws.{length-denotation}
use Rattle.oc_omf_records.proofs.laws.sizes_are_lengths.Goals as goal

pub returns : goal.returns
returns c = length-denotation
