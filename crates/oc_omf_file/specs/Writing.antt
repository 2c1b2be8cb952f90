-- OMF is written.
use Rattle.oc_target.specs.Targets.{WritesCanonical}
use Rattle.oc_omf.specs.Rules.{omf_dialect}
use Rattle.oc_omf_file.specs.Canonical.{omf_file}

-- every object that is ready for OMF has its canonical file: well formed, and it shows the object that is seen
abbrev pub OmfIsWritten : Type 0
OmfIsWritten = WritesCanonical omf_dialect omf_file
