-- The object as a file (our profile).
use Rattle.std.specs.Prelude.{ℕ, List}
use Rattle.oc_base.specs.{declared.format.Word.{Word}, declared.format.Word.TheVariants.{W32, W64}}
use Rattle.oc_elf.specs.{declared.class.ElfClass.{ElfClass}, declared.class.ElfClass.TheVariants.{Class32, Class64}}
use Rattle.oc_elf_file.specs.Canonical.{elf_file}
use Rattle.oc_made.specs.Functions.{made_object}

-- the class of ELF whose addresses have the word's size
abbrev pub class_for : Word → ElfClass
class_for W32 = Class32
class_for W64 = Class64

-- the canonical file of the object of so many functions
abbrev pub made_bytes : ℕ → Word → List ℕ
made_bytes count w = elf_file (class_for w) (made_object count w)
