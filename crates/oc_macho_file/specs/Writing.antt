-- Mach-O is written.
use Rattle.oc_base.specs.declared.format.Word.{Word}
use Rattle.oc_target.specs.Targets.{WritesCanonical}
use Rattle.oc_macho.specs.Rules.{mach_dialect}
use Rattle.oc_macho_file.specs.Canonical.{mach_file}

-- every object that is ready for Mach-O has its canonical file: well formed, and it shows the object that is seen
abbrev pub MachIsWritten : Type 0
MachIsWritten = (w : Word) → WritesCanonical (mach_dialect w) (mach_file w)
