-- The object of which the fitting is timed.
use Rattle.std.specs.{Prelude.{◌≡◌, ℕ, ◌+◌, ◌<◌, ◌^◌, List, [], ◌∷◌, codes, length, None}, List.{AllByRecursion}}
use Rattle.oc_base.specs.{declared.format.Format.{Format}, declared.format.Format.TheVariants.{Elf32, Elf64}, declared.format.Word.{Word}}
use Rattle.oc_base.specs.declared.format.Word.TheVariants.{W32, W64}
use Rattle.oc_linking.specs.{declared.terms.Binding.TheVariants.{Global}, declared.terms.Kind.TheVariants.{Code}, declared.terms.Value.TheVariants.{Place}}
use Rattle.oc_chains.specs.{declared.field.Field.{Field}, Lists.{list_of}}
use Rattle.oc_neutral.specs.{declared.section.Section.{Section}, declared.symbol.Symbol.{Symbol}, declared.reloc.Reloc.{Reloc}, Invariants.{AreBytes, IsHinted}}
use Rattle.oc_neutral.specs.Objects.{Object}

-- a section of code
pub record IsCode (s : Section) : Type 0 where
  pub kind : s.kind ≡ Code
  pub name : s.name ≡ codes ".text"
  pub tag : s.tag ≡ 14
  pub align : s.align ≡ 16
  pub alone : s.group ≡ None

-- a Global at the start of section 0
pub record IsPlain (s : Symbol) : Type 0 where
  pub named : 0 < length s.name
  pub name : AreBytes s.name
  pub binding : s.binding ≡ Global (Place 0 0)
  pub size : s.size ≡ 0
  pub number : s.number < 2 ^ 32

-- symbols have the numbers from k on
abbrev pub AreNumbered : ℕ → List Symbol → Type 0
AreNumbered k [] = Unit {0}
AreNumbered k (s ∷ symbols) = (s.number ≡ k) × AreNumbered (k + 1) symbols

-- ELF of a word
abbrev pub elf_of : Word → Format
elf_of W32 = Elf32
elf_of W64 = Elf64

-- an object of ELF of one section of code, whose symbols have the numbers of their positions
pub record IsElf (n : Object) : Type 0 where
  pub word : Word
  pub format : n.format ≡ elf_of word
  pub groups : n.groups ≡ []
  pub section : Section
  pub only : n.sections ≡ section ∷ []
  pub code : IsCode section
  pub symbols : AllByRecursion IsPlain n.symbols
  pub numbered : AreNumbered 0 n.symbols
  pub hints : (s : ℕ) → AllByRecursion (λ (x : Field Reloc). IsHinted x.item) (list_of n.relocs s)
