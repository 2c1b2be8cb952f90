-- An object of one section of data, and nothing else.
use Rattle.std.specs.Prelude.{◌≡◌, codes, None}
use Rattle.oc_base.specs.{declared.format.Format.{Format}, declared.format.Format.TheVariants.{Elf32, Elf64}, declared.format.Word.{Word}}
use Rattle.oc_base.specs.declared.format.Word.TheVariants.{W32, W64}
use Rattle.oc_linking.specs.declared.terms.Kind.TheVariants.{Data}
use Rattle.oc_neutral.specs.declared.section.Section.{Section}

-- ELF of a word
abbrev pub elf_of : Word → Format
elf_of W32 = Elf32
elf_of W64 = Elf64

-- a section of data of ELF: its tag is SHT_PROGBITS, above the bits for SHF_WRITE and SHF_ALLOC
pub record IsData (s : Section) : Type 0 where
  pub kind : s.kind ≡ Data
  pub name : s.name ≡ codes ".data"
  pub tag : s.tag ≡ 11
  pub align : s.align ≡ 16
  pub alone : s.group ≡ None
