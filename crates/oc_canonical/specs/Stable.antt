-- That a canonical file is its own conversion: converted to its own format, with nothing asked for, it is given again (our profile).
use Rattle.std.specs.Prelude.{◌≡◌, ℕ, true, List, slice_get, Some, None, Ok}
use Rattle.oc_base.specs.{declared.format.Format.{Format}, declared.format.Word.{Word}}
use Rattle.oc_linking.specs.Keeping.{keeps}
use Rattle.oc_neutral.specs.{declared.section.Section.{Section}, Objects.{Object}, Dialects.{Dialect}}
use Rattle.oc_shows.specs.{Computed.{object_in}, Seen.{seen}}
use Rattle.oc_target.specs.{Fitted.{IsFitted}, Fitting.{fit_of}}
use Rattle.oc_names.specs.Wishes.{no_wishes}
use Rattle.oc_convert.specs.{Refusals.{first_refusal, kept_of_file}, Converted.{planned_file}}
use Rattle.oc_elf.specs.{declared.class.ElfClass.{ElfClass}, Elf.{elf_dialect}}
use Rattle.oc_elf_file.specs.Canonical.{elf_file}
use Rattle.oc_coff.specs.{declared.form.CoffForm.{CoffForm}, Rules.{coff_dialect}}
use Rattle.oc_coff_file.specs.Canonical.{coff_file}
use Rattle.oc_macho.specs.Rules.{mach_dialect}
use Rattle.oc_macho_file.specs.Canonical.{mach_file}
use Rattle.oc_omf.specs.Rules.{omf_dialect}
use Rattle.oc_omf_file.specs.Canonical.{omf_file}

-- a conversion of the file c to its own format, with nothing asked for, is not refused, and its planned file is c
pub record IsStable (g : Dialect) (canonical : Object → List ℕ) (c : List ℕ) : Type 0 where
  pub accepted : first_refusal no_wishes g g.format c ≡ None
  pub planned : planned_file no_wishes g g.format canonical c ≡ Ok c

-- read with what is kept within its own format, the file c has no fault, shows what is seen of the object, and keeps all sections
pub record IsReadBack (g : Dialect) (n : Object) (c : List ℕ) : Type 0 where
  pub well_formed : g.rules.fault c (kept_of_file no_wishes g g.format) ≡ None
  pub object : object_in g c (kept_of_file no_wishes g g.format) ≡ seen n
  pub kept : (k : ℕ) (s : Section) → slice_get (seen n).sections k ≡ Some s → keeps (kept_of_file no_wishes g g.format) s.kind ≡ true

-- what is seen of each object that is ready for the format is ready, too, and has the object's canonical file, which is read back
pub record ReadsBack (g : Dialect) (canonical : Object → List ℕ) : Type 0 where
  pub fitted : (n : Object) → IsFitted g.format n → IsFitted g.format (seen n)
  pub file : (n : Object) → IsFitted g.format n → canonical (seen n) ≡ canonical n
  pub own : (n : Object) → IsFitted g.format n → IsReadBack g n (canonical n)

-- fitting leaves an object that is ready for the target
abbrev pub FittedStays : Type 0
FittedStays = (target : Format) (n : Object) → IsFitted target n → fit_of target n ≡ n

-- where the canonical files of a format are read back, each of them is its own conversion
abbrev pub CanonicalIsStable : Type 0
CanonicalIsStable = (g : Dialect) (canonical : Object → List ℕ) → ReadsBack g canonical → (n : Object) → IsFitted g.format n → IsStable g canonical (canonical n)

-- ... and they are, in each format

abbrev pub ElfReadsBack : Type 0
ElfReadsBack = (class : ElfClass) → ReadsBack (elf_dialect class) (elf_file class)

abbrev pub CoffReadsBack : Type 0
CoffReadsBack = (form : CoffForm) → ReadsBack (coff_dialect form) (coff_file form)

abbrev pub MachReadsBack : Type 0
MachReadsBack = (w : Word) → ReadsBack (mach_dialect w) (mach_file w)

abbrev pub OmfReadsBack : Type 0
OmfReadsBack = ReadsBack omf_dialect omf_file
