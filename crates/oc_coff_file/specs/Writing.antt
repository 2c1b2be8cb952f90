-- COFF is written.
use Rattle.oc_coff.specs.{declared.form.CoffForm.{CoffForm}, Rules.{coff_dialect}}
use Rattle.oc_target.specs.Targets.{WritesCanonical}
use Rattle.oc_coff_file.specs.Canonical.{coff_file}

-- every object that is ready for COFF has its canonical file: well formed, and it shows the object that is seen
abbrev pub CoffIsWritten : Type 0
CoffIsWritten = (w : CoffForm) → WritesCanonical (coff_dialect w) (coff_file w)
