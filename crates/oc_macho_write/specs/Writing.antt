-- What the writers of Mach-O promise of their files.
use Rattle.oc_base.specs.declared.format.Word.{Word}
use Rattle.oc_target.specs.Targets.{WritesCanonical}
use Rattle.oc_macho.specs.Rules.{mach_dialect}
use Rattle.oc_macho_file.specs.Canonical.{mach_file}
use Rattle.oc_macho_file.proofs.WrittenLaw.{mach_is_written}

-- every object that is ready for Mach-O is written: its file is well formed, and shows the object that is seen
pub writes_mach : (w : Word) → WritesCanonical (mach_dialect w) (mach_file w)
writes_mach = mach_is_written
