-- Every object that is ready for Mach-O is written.
use Rattle.oc_macho_file.proofs.WrittenLaw as proven
use Rattle.oc_macho_file.proofs.laws.mach_file_is_written.Goals as goal

pub returns : goal.returns
returns c = proven.mach_is_written
