-- What the writer of OMF promises of its files.
use Rattle.oc_target.specs.Targets.{WritesCanonical}
use Rattle.oc_omf.specs.Rules.{omf_dialect}
use Rattle.oc_omf_file.specs.Canonical.{omf_file}
use Rattle.oc_omf_file.proofs.WrittenLaw.{omf_is_written}

-- every object that is ready for OMF is written: its file is well formed, and shows the object that is seen
pub writes_omf : WritesCanonical omf_dialect omf_file
writes_omf = omf_is_written
