-- What hints are about (our profile).
use Rattle.std.specs.Prelude.{ℕ, Bool, not, List}
use Rattle.oc_base.specs.{declared.format.Format.{Format}, declared.format.Word.TheVariants.{W64}}
use Rattle.oc_neutral.specs.{Families.{container_of, family_of, same_word}, Family.{Container, IsElf, IsCoff, IsMach, IsOmf, same_container}}
use Rattle.oc_neutral.specs.Objects.{Object}
use Rattle.oc_names.specs.Wishes.{Wishes}
use Rattle.oc_hints.specs.declared.subject.Subject.{Subject}

-- a conversion: a file, its object before and after its edits, the target, and what is asked of it
pub record Case : Type 0 where
  pub file : List ℕ
  pub input : Object
  pub output : Object
  pub to : Format
  pub wishes : Wishes

-- the conversion that the program looks at
abbrev pub case_of : Subject → Case
case_of x = record { file = x.file.now; input = x.input.now; output = x.output.now; to = x.to; wishes = x.edits.now }

-- ... formats

-- the format is of the container
abbrev pub is_of : Container → Format → Bool
is_of container format = same_container (container_of format) container

abbrev pub is_elf : Format → Bool
is_elf format = is_of IsElf format

abbrev pub is_coff : Format → Bool
is_coff format = is_of IsCoff format

abbrev pub is_mach : Format → Bool
is_mach format = is_of IsMach format

abbrev pub is_omf : Format → Bool
is_omf format = is_of IsOmf format

-- two formats are of one container
abbrev pub have_one_container : Format → Format → Bool
have_one_container a b = same_container (container_of a) (container_of b)

-- its addresses have 64 bits
abbrev pub is_wide : Format → Bool
is_wide format = same_word (family_of format).word W64

-- ... conversions

-- the format of the file
abbrev pub source_of : Case → Format
source_of x = x.input.format

-- the target is of another container
abbrev pub crosses : Case → Bool
crosses x = not (have_one_container x.input.format x.to)
