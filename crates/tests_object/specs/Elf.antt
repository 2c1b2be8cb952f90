-- Small objects of ELF, which can be fitted to every format of their word.
use Rattle.std.specs.Prelude.{◌≡◌, ◌≢◌, true, false}
use Rattle.oc_base.specs.{declared.format.Format.{Format}, declared.format.Format.TheVariants.{Elf32, Elf64}, declared.format.Word.{Word}}
use Rattle.oc_base.specs.declared.format.Word.TheVariants.{W32, W64}
use Rattle.oc_linking.specs.declared.terms.Kind.TheVariants.{Note}
use Rattle.oc_neutral.specs.{declared.section.Section.{Section}, GivenTags.{can_have, is_blank_type}}

-- ELF of a word
abbrev pub elf_of : Word → Format
elf_of W32 = Elf32
elf_of W64 = Elf64

-- reading ELF can give this section, which has bytes in the file
pub record IsGiven (s : Section) : Type 0 where
  pub gives : (w : Word) → can_have (elf_of w) s.kind s.name s.tag ≡ true
  pub full : (w : Word) → is_blank_type (elf_of w) s.tag ≡ false
  pub kept : s.kind ≢ Note
