use Rattle.oc_coff_file.proofs.WrittenLaw as proven
use Rattle.oc_coff_file.proofs.laws.coff_file_is_written.Goals as goal

pub returns : goal.returns
returns c = proven.coff_is_written
