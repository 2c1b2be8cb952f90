use Rattle.oc_omf_records.proofs.WrittenLaws.{written_is_read_lem}
use Rattle.oc_omf_records.proofs.laws.written_is_read.Goals as goal

pub returns : goal.returns
returns c = written_is_read_lem
