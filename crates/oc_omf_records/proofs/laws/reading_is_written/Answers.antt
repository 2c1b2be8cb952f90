use Rattle.oc_omf_records.proofs.EncodingLaws.{reading_is_written_lem}
use Rattle.oc_omf_records.proofs.laws.reading_is_written.Goals as goal

pub returns : goal.returns
returns c = reading_is_written_lem
