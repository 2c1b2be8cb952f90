-- Every object that is ready for OMF is written.
use Rattle.oc_omf_file.proofs.WrittenLaw as proven
use Rattle.oc_omf_file.proofs.laws.omf_file_is_written.Goals as goal

pub returns : goal.returns
returns c = proven.omf_is_written
